-- Expressions and what they come to, computed (Req 03).
use Rattle.std.specs.Prelude.{◌-◌, ◌&&◌, ◌∷◌, ◌++◌}
use Prim.Native.Nat.{◌^◌}
use Prim.Native.String.{String}
use mathlib.Core.Path.{◌≡◌, refl}
use Rattle.definition.specs.Text.{ℕ, Bool, true, List, [], replicate, ascii, same, byte}
use Rattle.definition.specs.Listed.{value_listed}

pub record Case : Type 0 where
  pub expression : List ℕ
  pub refusal : ℕ
  pub bits : ℕ

abbrev no_of : List ℕ → ℕ → Case  -- Refused.
no_of s r = record { expression = s; refusal = r; bits = 0 }

abbrev no : String → ℕ → Case
no s r = no_of (ascii s) r

abbrev is_of : List ℕ → ℕ → Case  -- A value, and the value -n.
is_of s n = record { expression = s; refusal = 0; bits = n }

abbrev is : String → ℕ → Case
is s n = is_of (ascii s) n

abbrev is_minus : String → ℕ → Case
is_minus s n = is s (2 ^ 32 - n)

-- A name: start, end, mark, value.
abbrev listed : ℕ → ℕ → ℕ → ℕ → List ℕ
listed s e mark value = s ∷ e ∷ mark ∷ value ∷ []

unfoldable pub names_text : List ℕ
names_text = ascii "ABC\\\nDE" ++ (0xFF ∷ ascii "defined GF")

-- A is 3, and 4 does not count; B has no value; CD is -2; `defined` is in the list and no name; F would begin behind its end, and once more end behind the
-- text; an empty name; E is 7 with another mark; GF is 8 and ends where the text does; the last is unfinished.
unfoldable pub names_list : List ℕ
names_list =
    listed 0 1 1 3 ++ listed 0 1 1 4 ++ listed 1 2 0 9 ++ listed 2 6 1 (2 ^ 32 - 2) ++ listed 8 15 1 1 ++ listed 18 17 1 5 ++ listed 17 19 1 5 ++ listed 0 0 1 5
    ++ listed 6 7 (2 ^ 32 - 1) 7 ++ listed 16 18 1 8 ++ (17 ∷ 18 ∷ 1 ∷ [])

-- Literals, unescaped.
abbrev literals : List Case
literals =
    is "0" 0 ∷ is "00" 0 ∷ is "017" 15 ∷ is "0x1F" 31 ∷ is "0Xaf" 175 ∷ is "0xA" 10 ∷ is "100" 100 ∷ is "2147483647" 2147483647 ∷ is "017777777777" 2147483647 ∷
    is "1\\\n2" 12 ∷ is "0\\\nx\\\r\n10" 16 ∷ is "0x0000000000000000000000000000000001" 1 ∷
    no "08" 11 ∷ no "0x" 11 ∷ no "1u" 11 ∷ no "1.0" 11 ∷ no ".5" 11 ∷ no "1e5" 11 ∷ no "0xe+1" 11 ∷ is "0xe +1" 15 ∷ no "0xG" 11 ∷ no "0x\\\n" 11 ∷
    no "2147483648" 13 ∷ no "020000000000" 13 ∷ no "0x80000000" 13 ∷ no "4294967296" 13 ∷ no "99999999999999999999999999999999999999" 13 ∷
    no "-2147483648" 13 ∷ is "0 && 4294967296" 0 ∷ no "4294967296u" 11 ∷ []

-- Names: the first of equal ones, unescaped on both sides, and those that match nothing.
abbrev names : List Case
names =
    is "A" 3 ∷ is_minus "CD" 2 ∷ is_minus "C\\\r\nD" 2 ∷ is "E" 7 ∷ is "GF" 8 ∷ is "CD < 0" 1 ∷
    no "B" 12 ∷ no "C" 12 ∷ no "F" 12 ∷ no "G" 12 ∷ no "AB" 12 ∷ no "a" 12 ∷ is "A\\\n" 3 ∷
    is "defined A" 1 ∷ is "defined B" 1 ∷ is "defined CD" 1 ∷ is "defined F" 0 ∷ is "defined AB" 0 ∷ is "defined(A)" 1 ∷ is "defined /**/ ( \\\n B )" 1 ∷
    is "de\\\nfined E" 1 ∷ is "defined A + defined F" 1 ∷ is "-defined A" 0xFFFFFFFF ∷
    no "defined" 11 ∷ no "defined defined" 11 ∷ no "defined(defined)" 11 ∷ no "defined((A))" 11 ∷ no "defined(A" 11 ∷ no "defined 1" 11 ∷ no "defined()" 11 ∷ no "defined(A+" 11 ∷
    no "(defined)" 11 ∷ []

-- Precedence and association: each operator beside those of the next rank.
abbrev ranks : List Case
ranks =
    is "1 + 2 * 3" 7 ∷ is "2 * 3 + 1" 7 ∷ is "7 - 8 / 2" 3 ∷ is "7 + 5 % 3" 9 ∷
    is "8 / 4 / 2" 1 ∷ is "8 / (4 / 2)" 4 ∷ is "7 % 4 * 2" 6 ∷ is "7 - 2 - 1" 4 ∷ is_minus "2 - 3 + 1 - 4" 4 ∷
    is "1 << 1 + 1" 4 ∷ is "8 >> 2 - 1" 4 ∷ is "16 >> 1 << 1" 16 ∷
    is "1 < 1 << 1" 1 ∷ is "2 > 2 >> 1" 1 ∷ is "2 <= 1 << 1" 1 ∷ is "3 >= 4 >> 1" 1 ∷ is "2 < 1 < 1" 1 ∷ is "3 > 2 > 1" 0 ∷
    is "2 == 1 < 2" 0 ∷ is "3 != 2 > 1" 1 ∷ is "2 == 1 <= 2" 0 ∷ is "3 != 2 >= 2" 1 ∷ is "3 == 3 == 1" 1 ∷ is "2 != 2 == 0" 1 ∷
    is "2 & 2 == 2" 0 ∷ is "2 & 2 != 1" 0 ∷ is "1 ^ 3 & 2" 3 ∷ is "1 | 1 ^ 1" 1 ∷ is "0 && 1 | 2" 0 ∷ is "1 || 0 && 0" 1 ∷ is "(1 || 0) && 0" 0 ∷ is "1 + 2 << 3" 24 ∷
    is_minus "- 2 * 3" 6 ∷ is "! 0 + 1" 2 ∷ is "~ 0 & 6" 6 ∷ is "- - 5" 5 ∷ is "+ + 5" 5 ∷ is "+5" 5 ∷ is "!!7" 1 ∷ is "-+-~-!0" 0 ∷ is "((((3))))" 3 ∷ []

-- What each operator does, at the borders too.
abbrev operators : List Case
operators =
    is_minus "-5 >> 1" 3 ∷ is "5 >> 1" 2 ∷ is_minus "-1 >> 31" 1 ∷ is_minus "-1 << 31" 2147483648 ∷ no "1 << 31" 13 ∷ is "1 << 30" 1073741824 ∷ no "0 << 32" 13 ∷ no "0 >> 32" 13 ∷
    no "1 << -1" 13 ∷ no "1 >> -1" 13 ∷ is "0 << 31" 0 ∷ no "-2 << 31" 13 ∷
    is_minus "-7 / 2" 3 ∷ is_minus "7 / -2" 3 ∷ is "-7 / -2" 3 ∷ is_minus "-7 % 2" 1 ∷ is "7 % -2" 1 ∷ is_minus "-7 % -2" 1 ∷ is "(-2147483647 - 1) % -1" 0 ∷
    no "(-2147483647 - 1) / -1" 13 ∷ is_minus "(-2147483647 - 1) / 1" 2147483648 ∷ no "1 / 0" 13 ∷ no "1 % 0" 13 ∷ no "0 / 0" 13 ∷
    no "2147483647 + 1" 13 ∷ no "2147483647 + 1 - 1" 13 ∷ is_minus "-2147483647 - 1" 2147483648 ∷ no "-2147483647 - 2" 13 ∷ no "-(-2147483647 - 1)" 13 ∷ no "65536 * 32768" 13 ∷
    is_minus "65536 * -32768" 2147483648 ∷
    is "-2147483647 < 2147483647" 1 ∷ is "2147483647 < -2147483647" 0 ∷ is "3 < 3" 0 ∷ is "-1 <= -1" 1 ∷ is "2 <= 1" 0 ∷ is "-1 <= 1" 1 ∷
    is "-2 >= -1" 0 ∷ is "3 >= 3" 1 ∷ is "1 >= -1" 1 ∷ is "-1 > -2" 1 ∷ is "-1 > 1" 0 ∷
    no "-1 == 4294967295" 13 ∷ is "-1 == -1" 1 ∷ is "2 == 1" 0 ∷ is "1 == 2" 0 ∷ is "-1 != 1" 1 ∷ is "2 != 1" 1 ∷
    is "6 ^ 3" 5 ∷ is "6 | 3" 7 ∷ is "(-2147483647 - 1 | 0) < 0" 1 ∷ is_minus "-1 ^ 0" 1 ∷ is_minus "-1 & -2" 2 ∷ is_minus "-4 | 1" 3 ∷ is "-4 & 7" 4 ∷ is_minus "~5" 6 ∷ is "~5 < 0" 1 ∷ is "~-6" 5 ∷
    is "!5" 0 ∷ is "!-1" 0 ∷ is "5 && -5" 1 ∷ is "4 && 2" 1 ∷ is "5 || 0" 1 ∷ is "0 || -5" 1 ∷ is "0 || 0" 0 ∷ is "-1 && 0" 0 ∷ []

-- The right side of && and || only when needed; the first refusal met, operands from the left and each before its operator.
abbrev met : List Case
met =
    is "0 && 1 / 0" 0 ∷ is "1 || B" 1 ∷ no "1 && B" 12 ∷ no "0 || 1 / 0" 13 ∷ no "B && 0" 12 ∷ no "B || 1" 12 ∷ is "0 && B || 2" 1 ∷ no "B / 0" 12 ∷ no "1 / 0 + B" 13 ∷ no "B + 1 / 0" 12 ∷
    no "1 << B" 12 ∷ no "2147483647 + 1 + B" 13 ∷ no "2147483647 + B" 12 ∷ no "-B" 12 ∷ no "4294967296 + B" 13 ∷ is "defined B && A" 1 ∷ is "defined F && F" 0 ∷ []

-- Not in the grammar, which is asked first.
abbrev outside : List Case
outside =
    no "" 11 ∷ no " /**/ " 11 ∷ no "0 && 08" 11 ∷ no "1/0 )" 11 ∷ no "1\n" 11 ∷ no "\n1" 11 ∷ no "(1" 11 ∷ no "1)" 11 ∷ no "()" 11 ∷ no "1 2" 11 ∷ no "1 +" 11 ∷ no "* 1" 11 ∷ no "1 ~ 2" 11 ∷ no "1 ! 2" 11 ∷
    no "1, 2" 11 ∷ no "1 ? 2 : 3" 11 ∷ no "1 ^^ 0" 11 ∷ no "++A" 11 ∷ no "A--" 11 ∷ no "A ## B" 11 ∷ no "A = 1" 11 ∷ no "A += 1" 11 ∷ no "\"a\"" 11 ∷ no "A\\" 11 ∷ no "A $" 11 ∷ no "A(1)" 11 ∷ no "1 & & 1" 11 ∷
    no "B @" 11 ∷ no "#" 11 ∷ no "include <a>" 11 ∷ is "\u{b}1 // B" 1 ∷ is " 1/**/+\\\n/**/2 " 3 ∷ no_of (0xFF ∷ 49 ∷ []) 2 ∷ no_of (49 ∷ 0xC3 ∷ []) 10 ∷ []

-- So many brackets or signs around an expression.
abbrev around : ℕ → String → List ℕ
around n s = replicate n (byte "(") ++ (ascii s ++ replicate n (byte ")"))

abbrev levels : List Case
levels =
    is_of (around 64 "1") 1 ∷ no_of (around 65 "1") 11 ∷ no_of (around 64 "-1") 11 ∷ is_of (around 63 "-1") (2 ^ 32 - 1) ∷ is_of (ascii "-1 + " ++ around 64 "1") 0 ∷
    is_of (around 64 "defined(A)") 1 ∷ is_of (replicate 64 (byte "!") ++ ascii "0") 0 ∷ no_of (replicate 65 (byte "~") ++ ascii "0") 11 ∷ no_of (ascii "+" ++ around 64 "1") 11 ∷
    no_of (ascii "0 && " ++ around 65 "1") 11 ∷ []

unfoldable pub cases : List Case
cases = literals ++ names ++ ranks ++ operators ++ met ++ outside ++ levels

-- Whether each comes to that.
unfoldable pub all_valued : List Case → Bool
all_valued [] = true
all_valued (c ∷ cs) = same (value_listed c.expression names_list names_text) (c.refusal ∷ c.bits ∷ []) && all_valued cs

pub cases_valued : all_valued cases ≡ true
unfolding all_valued cases ascii same names_text names_list value_listed
cases_valued = refl
