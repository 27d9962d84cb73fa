-- The rest of each directive's line is read exactly, and the tables of words agree.
use Prim.Native.Nat.{ℕ}
use mathlib.Core.Path.{◌≡◌, refl, ap, sym, ◌∙◌, subst}
use mathlib.Core.Bool.{Bool, true, false, not}
use mathlib.Core.List.{List, [], ◌∷◌, cons-ne-nil}
use mathlib.Core.Option.{Option, none, some}
use lib.Dec.{eqb}
use Rattle.definition.specs.Text.{same}
use Rattle.definition.specs.Unescaped.{unescaped}
use Rattle.definition.specs.SyntaxKind.{Kind}
use Rattle.definition.specs.Tree.{Leaf}
use Rattle.definition.specs.Error.{ErrorKind, named_error}
use Rattle.definition.specs.Parser.{is, trivia, newline_leaf, inline, peek, Reader, ◌then◌, wrap, skip, skip_trivia, nothing, bump, maybe}
use Rattle.definition.specs.Syntax.{body, pp_body, pp_define, pp_version, pp_include, extra, finish, Directive, directive_named, directives}
use Rattle.definition.specs.Grammar.{one, Many, no_more, ◌⨟◌, ◌⨾◌, Maybe, without, with_it, Eol, at_newline, at_end, t*, IDENT_KW, Rest, rest_of, WordRow, words, rest_after}
use Rattle.theorems.proofs.Grammar.Clean.{Clean, clean_then, then_clean, of_kind, after_many, skipped, many_many, many_inline, inline_after, clean_trivia, trivia_clean}
use Rattle.theorems.proofs.Grammar.Exact.{Rel, Exact, exact_then, exact_assoc, Solid, exact_lead, solid_one, solid_ident, solid_then, exact_wrap, exact_nothing, If, there, not_there, exact_maybe, exact_one, exact_ident, exact_if_ident, exact_extension}
use Rattle.theorems.proofs.Grammar.Groups.{exact_args}
use Rattle.theorems.proofs.Grammar.Plain.{id}

-- At the end of a line stands a NEWLINE or nothing.
eol_not : (p : Leaf → Bool) → ((t : Leaf) → newline_leaf t ≡ true → p t ≡ false) → {L R : List Leaf} → Eol L R → peek p L ≡ false
unfolding peek
eol_not p h (at_newline {t = t} e) = h t e
eol_not p h at_end = refl

pub eol_is : (k : ℕ) → eqb Kind.NEWLINE k ≡ false → {L R : List Leaf} → Eol L R → peek (is k) L ≡ false
eol_is k h = eol_not (is k) (λ t e. rw (of_kind t e) h)

pub eol_inline : {L R : List Leaf} → Eol L R → peek inline L ≡ false
eol_inline = eol_not inline (λ t e. ap not e)

pub solid_eol : Solid Eol
solid_eol = record { begins = eol_not trivia (λ t e. rw (of_kind t e)) }

-- The profile of a version, which may be absent.
abbrev profile : Reader
profile = maybe (is Kind.IDENT_KW) (wrap Kind.PP_VERSION_PROFILE bump)

abbrev Profile : Rel
Profile = If (is Kind.IDENT_KW) (wrap Kind.PP_VERSION_PROFILE bump)

exact_profile : Exact profile Profile
exact_profile = exact_maybe _ _

-- What follows the rest of the directive with the word w: the end of its line.
module _ (w : Leaf) where
  abbrev pub ending : Reader
  ending = finish (λ t end. named_error ErrorKind.extra_tokens t.start end w ∷ [])

  exact_ending : Exact ending Eol
  unfolding finish nothing bump ◌then◌ wrap extra
  exact_ending = record { to = to; from = λ {L} c. from L c }
    where
      to : {L R : List Leaf} → Eol L R → Clean ending L R
      to (at_newline e) = record { clear = rw (e, finish) (refl, refl) }
      to at_end = record { clear = (refl, refl) }

      from : (L : List Leaf) {R : List Leaf} → Clean ending L R → Eol L R
      from [] c = subst (Eol []) c.clear.1 at_end
      from (t ∷ L) {R} c = go (newline_leaf t) refl
        where
          go : (b : Bool) → newline_leaf t ≡ b → Eol (t ∷ L) R
          go true e = subst (Eol (t ∷ L)) (rw (e, finish) at c.clear.1) (at_newline e)
          go false e = absurd (cons-ne-nil _ _ (rw (e, finish) at c.clear.0))

  abbrev pub tail : Reader
  tail = skip_trivia then ending

  exact_tail : Exact tail (t* ⨟ Eol)
  exact_tail = exact_lead ending exact_ending solid_eol

  -- A reader of a rest that, with its line's end behind it, is exact.
  abbrev pub Whole : Reader → Rel → Type 0
  Whole r G = Exact (r then tail) (G ⨟ t* ⨟ Eol)

  whole : {r : Reader} {G : Rel} → Exact r G → Whole r G
  whole {r} x = exact_then r tail x exact_tail

  whole_then : (p q : Reader) {G H : Rel} → Exact p G → Whole q H → Whole (p then q) (G ⨟ H)
  whole_then p q x y = exact_assoc p q tail (exact_then p (q then tail) x y)

  whole_lead : (q : Reader) {G : Rel} → Whole q G → Solid G → Whole (skip_trivia then q) (t* ⨟ G)
  whole_lead q y f = exact_assoc skip_trivia q tail (exact_lead (q then tail) y (solid_then f))

  -- A body takes the line up to its end.
  whole_body : (k : ℕ) → Whole (pp_body k) (Many inline)
  unfolding pp_body body ◌then◌ skip_trivia skip
  whole_body k = record { to = to; from = from }
    where
      to : {L R : List Leaf} → (Many inline ⨟ t* ⨟ Eol) L R → Clean (pp_body k then tail) L R
      to {L} (m ⨾ j ⨾ e) =
          let q = after_many (many_many m (many_inline j)) (eol_inline e) in
          clean_then (pp_body k) tail (record { clear = (refl, inline_after L ∙ q) }) (exact_tail.to (no_more ⨾ e))

      from : {L R : List Leaf} → Clean (pp_body k then tail) L R → (Many inline ⨟ t* ⨟ Eol) L R
      from {L} c =
          let b = then_clean (pp_body k) tail c in
          subst (Many inline L) (sym (inline_after L) ∙ b.first.clear.1) (skipped inline L).passed ⨾ exact_tail.from b.second

  -- The rests of a version and of a define.
  whole_profile : Whole (skip_trivia then profile) (Maybe (t* ⨟ IDENT_KW))
  unfolding wrap bump peek
  whole_profile = record { to = to; from = from }
    where
      read : {L M N R : List Leaf} → t* L M → peek trivia M ≡ false → Profile M N → (t* ⨟ Eol) N R → Clean ((skip_trivia then profile) then tail) L R
      read m h x z = clean_then _ tail (clean_then skip_trivia profile (clean_trivia m h) (exact_profile.to x)) (exact_tail.to z)

      to : {L R : List Leaf} → (Maybe (t* ⨟ IDENT_KW) ⨟ t* ⨟ Eol) L R → Clean ((skip_trivia then profile) then tail) L R
      to (without ⨾ m ⨾ e) = read m (solid_eol.begins e) (not_there (eol_is Kind.IDENT_KW refl e)) (no_more ⨾ e)
      to (with_it (m ⨾ one {t = t} e) ⨾ z) = read m (rw (of_kind t e)) (there e (record { clear = (refl, refl) })) z

      found : {L M N R : List Leaf} → t* L M → Profile M N → (t* ⨟ Eol) N R → (Maybe (t* ⨟ IDENT_KW) ⨟ t* ⨟ Eol) L R
      found m (there e c) z = with_it (m ⨾ subst (IDENT_KW _) c.clear.1 (one e)) ⨾ z
      found m (not_there e) (k ⨾ z) = without ⨾ many_many m k ⨾ z

      from : {L R : List Leaf} → Clean ((skip_trivia then profile) then tail) L R → (Maybe (t* ⨟ IDENT_KW) ⨟ t* ⨟ Eol) L R
      from c =
          let b = then_clean (skip_trivia then profile) tail c in
          let d = then_clean skip_trivia profile b.first in
          found (trivia_clean d.first).passed (exact_profile.from d.second) (exact_tail.from b.second)

  whole_version : (n : ℕ) → Whole (pp_version n) (rest_of Rest.version)
  unfolding pp_version
  whole_version n = whole_lead _ (whole_then _ _ (exact_wrap _ _ (exact_one n Kind.DIGITS)) whole_profile) (solid_then (solid_one _ refl))

  whole_define : (n : ℕ) → Whole (pp_define n) (rest_of Rest.define)
  unfolding pp_define
  whole_define n = whole_lead _ (whole_then _ _ (exact_ident n) (whole_then _ _ (exact_args n) (whole_body _))) (solid_then solid_ident)

infixr 30 ◌⋮◌
-- The words of the grammar beside those of the reader, each rest beside its reader.
data Aligned (w : Leaf) : List WordRow → List Directive → Type 0 where
  end : Aligned w [] []
  ◌⋮◌ : {s : List ℕ} {r : Rest} {k : ℕ} {p : Reader} {xs : List WordRow} {ds : List Directive}
      → Whole w p (rest_of r) → Aligned w xs ds
      → Aligned w (record { spelt = s; rest = r } ∷ xs) (record { spelt = s; node_kind = k; reads = p } ∷ ds)

aligned : (w : Leaf) (n : ℕ) → Aligned w words (directives n id)
unfolding words directives pp_include id
aligned w n =
    whole_body w _ ⋮ whole_define w n ⋮ whole w (exact_if_ident n) ⋮ whole_body w _ ⋮ whole_body w _ ⋮ whole_body w _ ⋮ whole_version w n ⋮
    whole_body w _ ⋮ whole w (exact_if_ident n) ⋮ whole w (exact_if_ident n) ⋮ whole_body w _ ⋮ whole w exact_nothing ⋮ whole w exact_nothing ⋮
    whole w (exact_extension n) ⋮ end

-- So a word is known to both or to neither.
pub data Agree (w : Leaf) : Option Rest → Option Directive → Type 0 where
  neither : Agree w none none
  both : {r : Rest} {d : Directive} → Whole w d.reads (rest_of r) → Agree w (some r) (some d)

agree : (w : Leaf) {xs : List WordRow} {ds : List Directive} → Aligned w xs ds → (s : List ℕ) → Agree w (rest_after xs s) (directive_named ds s)
unfolding rest_after directive_named
agree w end s = neither
agree w (◌⋮◌ {s = v} {r} {k} {p} {xs} {ds} g h) s = go (same v s) refl (agree w h s)
  where
    go : (b : Bool) → same v s ≡ b → Agree w (rest_after xs s) (directive_named ds s)
        → Agree w (rest_after (record { spelt = v; rest = r } ∷ xs) s) (directive_named (record { spelt = v; node_kind = k; reads = p } ∷ ds) s)
    go true e ih = rw (e, rest_after, directive_named) (both g)
    go false e ih = rw (e, rest_after, directive_named) ih

-- The rest that the grammar asks for behind a word, and the directive of that word.
abbrev pub rest_behind : Leaf → Option Rest
rest_behind t = rest_after words (unescaped t.bytes)

abbrev pub directive_of : ℕ → Leaf → Option Directive
directive_of n t = directive_named (directives n id) (unescaped t.bytes)

pub agreed : (n : ℕ) (t : Leaf) → Agree t (rest_behind t) (directive_of n t)
agreed n t = agree t (aligned t n) (unescaped t.bytes)
