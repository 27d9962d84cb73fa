-- A line that is seen to be text by its first bytes, and the leaf that stands at a place.
use Prim.Native.Nat.{ℕ, ◌+◌, ◌≤◌, ◌<◌}
use mathlib.Core.Path.{◌≡◌, refl, sym, ap, ◌∙◌}
use mathlib.Core.Bool.{Bool, true, false, and-false, false≢true}
use mathlib.Core.List.{List}
use native.Mathlib.Omega.{arith}
use native.Mathlib.Decide.{dec_lt}
use lib.Dec.{eqb}
use lib.ListN.{length, drop, get_or}
use lib.Seq.{drop-drop}
use borrow.Author.Tests.{eqb-true, eqb-false, ne_eqb}
use mir.Val.{Fits}
use mir.Syntax.{w32, w64}
use Rattle.definition.specs.Text.{byte}
use Rattle.definition.specs.SyntaxKind.{Kind}
use Rattle.definition.specs.Newline.{blank, chars}
use Rattle.definition.specs.Pre.{done, whitespace, begin, flag}
use Rattle.definition.specs.Calls.{longest_source}
use Rattle.theorems.specs.Walk.{walk, name_kind}
use Rattle.theorems.specs.Step.{Stepped, PreStepped}
use Rattle.theorems.specs.LeavesFrom.{leaves_from}
use Rattle.theorems.specs.TextLines.{Text}
use Rattle.theorems.proofs.Lexing.Gluing.{glue_start}
use Rattle.theorems.proofs.Lexing.PreAt.{glue_settled}
use Rattle.theorems.proofs.Lexing.Open.{blanks_only, Kinds, open_kind, quiet_settled, head_at, blanks_end}
use Rattle.theorems.proofs.Lexing.Texts.{text_byte, text_slash, text_behind}
use Rattle.text.specs.Newline.{newline_len}
use Rattle.text.proofs.Newlines as newlines
use Rattle.syntax_kind.specs.Number.{number}
use Rattle.syntax_kind.specs.declared.kind.SyntaxKind.{SyntaxKind}
use Rattle.syntax_kind.specs.declared.kind.SyntaxKind.TheVariants as kind
use Rattle.pre.specs.Table.{ClassNumber, class_number}
use Rattle.pre.specs.Scan.{Token, token, told, from}
use Rattle.pre.specs.declared.token.Token as code
use Rattle.pre.proofs.Classes.{newline_is, class_kind, closed_blank}
use Rattle.pre.proofs.States.{begin_newline, whitespace_goes, whitespace_stops}
use Rattle.pre.proofs.Froms.{from_end, go_on, stop_at, done_is, behind_newline}
use Rattle.glue.proofs.Begins.{entry, entry_is, entry_not}
use Rattle.glue.proofs.Periods.{pre_from}
use Rattle.parser.specs.Rest.{Sees}
use Rattle.text_lines.specs.Lines.{Quick, Begins, Shown, Going}
use Rattle.parser.proofs.Seeing.{seen_step}
use Rattle.text_lines.proofs.Quickly.{quick_blanks}

-- The line from a place on is text, if it is so behind its blanks.
module _ (s : List ℕ) (at : ℕ) (t : code.Token) (e : told t ≡ from whitespace 0 at s) where
  -- No blank stands where the blanks end.
  no_blank : t.end < length s → blank (get_or s t.end 0) ≡ false
  unfolding from
  no_blank h =
      let d : drop t.end s ≡ drop (walk whitespace 0 (drop at s)).long (drop at s)
      = ap (λ (r : Token). drop r.end s) e ∙ sym (drop-drop (walk whitespace 0 (drop at s)).long at s) in
      head_at (λ b. blank b ≡ false) s t.end h (rw d (blanks_end 0 (drop at s)))

  text_here : (x : ℕ) → t.end < length s → x ≡ get_or s (t.end + 1) 0 → Begins (get_or s t.end 0) x → (f : Bool) → Text (leaves_from s t.end f)
  text_here x h y k f = go (eqb (get_or s t.end 0) (byte "/")) refl
    where
      go : (u : Bool) → eqb (get_or s t.end 0) (byte "/") ≡ u → Text (leaves_from s t.end f)
      go true z = let p : get_or s t.end 0 ≡ byte "/" = eqb-true _ _ z in text_slash s t.end f h p (λ w. k.no_comment p (y ∙ w))
      go false z = text_byte s t.end f h (no_blank h) k.no_hash (eqb-false _ _ z) k.no_backslash

  -- Blanks stand before it, or it begins the line.
  text_from : ((f : Bool) → Text (leaves_from s t.end f)) → t.end < length s → (f : Bool) → Text (leaves_from s at f)
  unfolding from Kinds
  text_from k h f = elim (dec_lt at (length s)) [
    | yes l ↦ go l (eqb (class_number (get_or s at 0)) ClassNumber.WS) refl
    | no l ↦ absurd (let m : length s ≤ at = omega arith in omega (arith, ap (λ (r : Token). r.end) (e ∙ from_end whitespace 0 at s m)))
  ]
    where
      go : at < length s → (u : Bool) → eqb (class_number (get_or s at 0)) ClassNumber.WS ≡ u → Text (leaves_from s at f)
      go l true z =
          let y : class_number (get_or s at 0) ≡ ClassNumber.WS = eqb-true _ _ z in
          let q : number (entry (get_or s at 0)) ≡ class_number (get_or s at 0) = class_kind (get_or s at 0) in
          let x : entry (get_or s at 0) ≡ kind.WS = entry_is (get_or s at 0) kind.WS y in
          let m : told t ≡ from whitespace 0 (at + 1) s
          = e ∙ go_on whitespace whitespace at s l (closed_blank _ _ q x) (whitespace_goes _ _ q x) in
          let w : number t.kind ≡ Kind.WS = ap (λ (r : Token). r.kind) e ∙ open_kind (λ k. k ≡ Kind.WS) refl whitespace 0 (drop at s) blanks_only in
          let u : Stepped s at f (number t.kind) t.end f = (quick_blanks s at l (entry (get_or s at 0)) q t x m).step f in
          text_behind s at f Kind.WS t.end f (rw w at u) refl (k f)
      go l false z =
          let q : number (entry (get_or s at 0)) ≡ class_number (get_or s at 0) = class_kind (get_or s at 0) in
          let x : entry (get_or s at 0) ≡ kind.WS → ⊥ = entry_not (get_or s at 0) kind.WS (eqb-false _ _ z) in
          let m : t.end ≡ at = ap (λ (r : Token). r.end) (e ∙ stop_at whitespace at s l (whitespace_stops _ _ q x)) in
          rw m at (k f)

  pub shown_by : (x : ℕ) (r : Bool) → t.end < length s → x ≡ get_or s (t.end + 1) 0 → (r ≡ true → Begins (get_or s t.end 0) x) → r ≡ true → Shown s at
  shown_by x r h y k z = record { text = text_from (text_here x h y (k z)) h }

-- Behind a leaf.
module _ (s : List ℕ) (kind end : ℕ) where
  pub going_newline : (r : Bool) → kind ≡ Kind.NEWLINE → (r ≡ true → Shown s end) → Going s kind end r
  going_newline r e k = record { on = λ z w. k z; off = λ z. e }

  pub going_inline : (kind ≡ Kind.NEWLINE → ⊥) → Going s kind end true
  going_inline n = record { on = λ z w. absurd (n w); off = λ z. absurd (false≢true (sym z)) }

-- A token that is no continuation is seen as it is.
seen_as : (s : List ℕ) (at : ℕ) (f : Bool) (k e : ℕ) (g : Bool) → Stepped s at f k e g → (k ≡ Kind.LINECONT → ⊥) → Sees s at f (record { kind = k; start = at; end = e; angle = g })
seen_as s at f k e g u n = seen_step s at f k e g u k (rw (ne_eqb k Kind.LINECONT n))

module _ (s : List ℕ) (at : ℕ) (f : Bool) where
  pub seen_quick : (q : code.Token) (n : ℕ) → Quick s at q → n ≡ number q.kind → Sees s at f (record { kind = n; start = at; end = q.end; angle = f })
  seen_quick q n k e = rw e (seen_as s at f (number q.kind) q.end f (k.step f) k.no_linecont)

  -- A newline of w bytes.
  module _ (h : at < length s) (c : SyntaxKind) (y : number c ≡ class_number (get_or s at 0)) (z : c ≡ kind.NEWLINE) (w : ℕ) (e : w ≡ newline_len (chars (drop at s))) where
    some_width : w ≡ 0 → ⊥
    some_width x = false≢true (sym (newlines.no_newline s at w h e x) ∙ newline_is _ c y z)

    newline_flag : flag f (get_or s at 0) ≡ false
    unfolding flag
    newline_flag = rw (newline_is _ c y z) (and-false f)

    pub seen_newline : Sees s at f (record { kind = Kind.NEWLINE; start = at; end = at + w; angle = false })
    unfolding name_kind
    seen_newline =
        let x : token Kind.NEWLINE (at + w) ≡ from (begin f (get_or s at 0)) (get_or s at 0) (at + 1) s
        = rw (begin_newline _ c f y z) (sym (behind_newline (done Kind.NEWLINE) at s w h e some_width ∙ done_is Kind.NEWLINE (at + w) s)) in
        let p : PreStepped s at f Kind.NEWLINE (at + w) false = rw newline_flag at (pre_from s at f (token Kind.NEWLINE (at + w)) h x) in
        seen_as s at f Kind.NEWLINE (at + w) false (glue_settled _ _ _ _ _ _ (glue_start _ _ _ _ _ _ p) (quiet_settled Kind.NEWLINE refl)) (λ z. omega arith)

-- What the casts and the sum of `leaf_at` ask.
pub quick_fits : (s : List ℕ) (at : ℕ) (q : code.Token) → Quick s at q → length s ≤ longest_source → Fits w32 q.end
quick_fits s at q k l = let u : Stepped s at false (number q.kind) q.end false = k.step false in omega (arith, u.within)

module _ (s : List ℕ) (at w : ℕ) (e : w ≡ newline_len (chars (drop at s))) (h : at < length s) (l : length s ≤ longest_source) where
  ends_within : at + w ≤ length s
  ends_within = newlines.newline_within s at w (omega arith) e

  pub newline_sum : Fits w64 (at + w)
  newline_sum = omega (arith, ends_within)

  pub newline_cast : Fits w32 (at + w)
  newline_cast = omega (arith, ends_within)
