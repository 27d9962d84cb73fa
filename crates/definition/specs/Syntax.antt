-- The directive reader, with the Rust's recovery (01, "Directives"; GLSL 3.3). n: where the source ends.
use Rattle.std.specs.Prelude.{◌&&◌, ◌∷◌, if◌then◌else◌}
use Rattle.definition.specs.Text.{ℕ, zero, suc, Bool, true, false, not, List, [], Option, none, some, length, ascii, same, Kind}
use Rattle.definition.specs.Unescaped.{unescaped}
use Rattle.definition.specs.Glue.{tokens}
use Rattle.definition.specs.Tree.{Leaf, placed, bytes, stop, Forest, nil, leaf, node, row, ◌▹◌}
use Rattle.definition.specs.Error.{Err, ErrorKind, named_error, unexpected, end_of_input}
use Rattle.definition.specs.Parser.{is, trivia, newline_leaf, inline, while, after, peek, Got, push, raise, Reader, ◌then◌, wrap, skip, skip_trivia, nothing, bump, maybe, expect_one}

-- Bodies. Behind a ##, each further ## opens a PP_CONCAT inside the one before it, to the row's end.
unfoldable pub nest : List Leaf → Forest
nest [] = nil
nest (t ∷ ts) = if is Kind.PP_CONCAT_OP t then node Kind.PP_CONCAT (leaf t (nest ts)) nil else leaf t (nest ts)

-- The inside of the first PP_CONCAT, from the leaf that it wraps on.
unfoldable pub wrapped : List Leaf → Forest
wrapped [] = nil
wrapped (t ∷ ts) = if is Kind.PP_CONCAT_OP t then leaf t (nest ts) else leaf t (wrapped ts)

-- Whether the first leaf that is no trivia is a ##.
unfoldable pub pasted : List Leaf → Bool
pasted [] = false
pasted (t ∷ ts) = if trivia t then pasted ts else is Kind.PP_CONCAT_OP t

-- The first PP_CONCAT also wraps the last token before its ##, or, with none, starts where the body does.
unfoldable pub pp_tokens_from : List Leaf → Forest
pp_tokens_from [] = nil
pp_tokens_from (t ∷ ts) =
    if not (trivia t) && pasted ts then node Kind.PP_CONCAT (leaf t (wrapped ts)) nil else leaf t (pp_tokens_from ts)

unfoldable pub pp_tokens : List Leaf → Forest  -- `pp_tokens`.
pp_tokens ts = if pasted ts then node Kind.PP_CONCAT (wrapped ts) nil else pp_tokens_from ts

-- A row without the trivia at its end, and that trivia.
unfoldable pub all_trivia : List Leaf → Bool
all_trivia [] = true
all_trivia (t ∷ ts) = trivia t && all_trivia ts

unfoldable pub trimmed : List Leaf → List Leaf
trimmed [] = []
trimmed (t ∷ ts) = if all_trivia (t ∷ ts) then [] else t ∷ trimmed ts

unfoldable pub trailing : List Leaf → List Leaf
trailing [] = []
trailing (t ∷ ts) = if all_trivia (t ∷ ts) then t ∷ ts else trailing ts

-- The body up to the newline or the end; trailing trivia stays outside.
unfoldable pub body : ℕ → Reader
body k ts =
    let line = while inline ts in
    record { tree = node k (pp_tokens (trimmed line)) (row (trailing line)); errs = []; rest = after inline ts }

unfoldable pub pp_body : ℕ → Reader  -- Trivia, and then a body.
pp_body k = skip_trivia then body k

-- What an argument list waits for: an identifier, or else a comma; and its end.
abbrev pub wanted : Bool → ℕ
wanted first = if first then Kind.IDENT_KW else Kind.COMMA

abbrev pub arg_kinds : Bool → List ℕ
arg_kinds first = wanted first ∷ Kind.RPAREN ∷ []

-- A good identifier is a PP_DEFINE_ARG, a comma a leaf.
abbrev pub push_arg : Bool → Leaf → Got → Got
push_arg first t g = record { tree = if first then node Kind.PP_DEFINE_ARG (leaf t nil) g.tree else leaf t g.tree; errs = g.errs; rest = g.rest }

module _ (n : ℕ) where
  abbrev pub ident : Reader  -- `ident`.
  ident = expect_one n Kind.IDENT_KW

  abbrev pub digits : Reader  -- `digits`.
  digits = expect_one n Kind.DIGITS

  -- The argument list after its LPAREN; first: an identifier's place, else a comma's. Errors don't swallow a NEWLINE.
  unfoldable pub args : Bool → Reader
  args first [] = raise (end_of_input n n (arg_kinds first)) (nothing [])
  args first (t ∷ ts) =
      if trivia t then push t (args first ts) else
      if is Kind.RPAREN t then push t (nothing ts) else
      if is (wanted first) t then push_arg first t (args (not first) ts) else
      raise (unexpected t (arg_kinds first)) (if newline_leaf t then nothing (t ∷ ts) else push t (args (not first) ts))

  -- One node over the list: ERROR if it has an error.
  unfoldable pub define_args : Reader
  define_args ts =
      let a = (bump then args true) ts in
      record { tree = node (elim a.errs [ [] ↦ Kind.PP_DEFINE_ARGS | e ∷ es ↦ Kind.ERROR ]) a.tree nil; errs = a.errs; rest = a.rest }

  unfoldable pub pp_define : Reader  -- `define`: arguments only if LPAREN follows the name with no trivia.
  pp_define = skip_trivia then ident then maybe (is Kind.LPAREN) define_args then pp_body Kind.PP_DEFINE_BODY

  unfoldable pub pp_if_ident : Reader  -- `undef`, `ifdef`, `ifndef`: an identifier.
  pp_if_ident = skip_trivia then wrap Kind.PP_IDENT ident

  unfoldable pub pp_version : Reader  -- `version`: a number, maybe a profile.
  pp_version =
      skip_trivia then wrap Kind.PP_VERSION_NUMBER digits then skip_trivia then maybe (is Kind.IDENT_KW) (wrap Kind.PP_VERSION_PROFILE bump)

  -- The colon of an extension and what follows it; another leaf than a NEWLINE is taken in its place.
  unfoldable pub colon : Reader → Reader
  colon r [] = raise (end_of_input n n (Kind.COLON ∷ [])) (nothing [])
  colon r (t ∷ ts) =
      if is Kind.COLON t then (bump then r) (t ∷ ts) else
      raise (unexpected t (Kind.COLON ∷ [])) (if newline_leaf t then nothing (t ∷ ts) else push t (nothing ts))

  unfoldable pub pp_extension : Reader  -- `extension`: a name, a colon, a behaviour.
  pp_extension = skip_trivia then ident then skip_trivia then colon (skip_trivia then ident)

-- The end of a directive's line; extra leaves go into an ERROR node, and the error names their range.
unfoldable pub last_stop : ℕ → List Leaf → ℕ
last_stop n [] = n
last_stop n (t ∷ ts) = last_stop (stop t) ts

unfoldable pub extra : List Err → Reader  -- The rest of the line.
extra es ts = record { tree = row (while inline ts); errs = es; rest = after inline ts }

unfoldable pub finish : (Leaf → ℕ → List Err) → Reader  -- e: the error, from the first extra leaf and their end.
finish e [] = nothing []
finish e (t ∷ ts) =
    if newline_leaf t then bump (t ∷ ts) else
    (wrap Kind.ERROR (extra (e t (last_stop 0 (while inline (t ∷ ts))))) then bump) (t ∷ ts)

-- A directive: its word, the kind of its node, and how its rest is read.
pub record Directive : Type 0 where
  pub spelt : List ℕ
  pub node_kind : ℕ
  pub reads : Reader

abbrev dir : List ℕ → ℕ → Reader → Directive
dir w k r = record { spelt = w; node_kind = k; reads = r }

unfoldable pub directive_named : List Directive → List ℕ → Option Directive  -- The directive of a word; none: unknown.
directive_named [] w = none
directive_named (d ∷ ds) w = if same d.spelt w then some d else directive_named ds w

unfoldable pub directive : Leaf → Directive → Reader  -- Sort 2 for extra tokens.
directive w d = bump then d.reads then skip_trivia then finish (λ t end. named_error ErrorKind.extra_tokens t.start end w ∷ [])

unfoldable pub unknown : Leaf → Reader  -- Sort 1 at the name; no sort 2.
unknown w ts = raise (named_error ErrorKind.unknown_directive w.start (stop w) w) (finish (λ t end. []) ts)

-- Groups: how many brackets are open inside after a leaf; none: it is the matching RPAREN.
unfoldable pub depth : Leaf → ℕ → Option ℕ
depth t zero = if is Kind.RPAREN t then none else some (if is Kind.LPAREN t then 1 else 0)
depth t (suc d) = some (if is Kind.RPAREN t then d else if is Kind.LPAREN t then suc (suc d) else suc d)

-- From LPAREN's next leaf up to the matching RPAREN; an unended group is an error at its LPAREN.
unfoldable pub pp_rs_ident : Leaf → ℕ → Reader
pp_rs_ident l d [] = raise (end_of_input l.start (stop l) (Kind.RPAREN ∷ [])) (nothing [])
pp_rs_ident l d (t ∷ ts) = elim (depth t d) [ none ↦ bump (t ∷ ts) | some d' ↦ push t (pp_rs_ident l d' ts) ]

-- What follows HASH and its trivia: the kind of the node (none: no node), and the reading.
pub record Line : Type 0 where
  pub node_kind : Option ℕ
  pub got : Got

abbrev pub group : Got → Line  -- A closed group has no node, an unended one an ERROR node.
group a = record { node_kind = elim a.errs [ [] ↦ none | e ∷ es ↦ some Kind.ERROR ]; got = a }

-- again: how the leaves after `include` are lexed, where an angle string is expected.
module _ (n : ℕ) (again : List Leaf → List Leaf) where
  unfoldable pub pp_include : Reader  -- `include`: the path.
  pp_include ts = pp_body Kind.PP_INCLUDE_PATH (again ts)

  -- The fourteen directive words.
  unfoldable pub directives : List Directive
  directives =
      dir (ascii "include") Kind.PP_INCLUDE pp_include
      ∷ dir (ascii "define") Kind.PP_DEFINE (pp_define n)
      ∷ dir (ascii "undef") Kind.PP_UNDEF (pp_if_ident n)
      ∷ dir (ascii "line") Kind.PP_LINE (pp_body Kind.PP_LINE_BODY)
      ∷ dir (ascii "error") Kind.PP_ERROR (pp_body Kind.PP_ERROR_BODY)
      ∷ dir (ascii "pragma") Kind.PP_PRAGMA (pp_body Kind.PP_PRAGMA_BODY)
      ∷ dir (ascii "version") Kind.PP_VERSION (pp_version n)
      ∷ dir (ascii "if") Kind.PP_IF (pp_body Kind.PP_IF_EXPR)
      ∷ dir (ascii "ifdef") Kind.PP_IFDEF (pp_if_ident n)
      ∷ dir (ascii "ifndef") Kind.PP_IFNDEF (pp_if_ident n)
      ∷ dir (ascii "elif") Kind.PP_ELIF (pp_body Kind.PP_IF_EXPR)
      ∷ dir (ascii "else") Kind.PP_ELSE nothing
      ∷ dir (ascii "endif") Kind.PP_ENDIF nothing
      ∷ dir (ascii "extension") Kind.PP_EXTENSION (pp_extension n)
      ∷ []

  -- Words are compared unescaped. A HASH alone at the end is an ERROR node with no error.
  unfoldable pub control_line : List Leaf → Line
  control_line [] = record { node_kind = some Kind.ERROR; got = nothing [] }
  control_line (t ∷ ts) =
      if newline_leaf t then record { node_kind = some Kind.PP_EMPTY; got = bump (t ∷ ts) } else
      if is Kind.LPAREN t then group ((bump then pp_rs_ident t 0) (t ∷ ts)) else
      elim (directive_named directives (unescaped t.bytes)) [
        | some d ↦ record { node_kind = some d.node_kind; got = directive t d (t ∷ ts) }
        | none ↦ record { node_kind = some Kind.ERROR; got = unknown t (t ∷ ts) }
      ]

  -- Trivia before a directive's HASH belongs to its node.
  unfoldable pub hash_item : List Leaf → Reader
  hash_item before ts =
      let h = (bump then skip_trivia) ts in
      let p = control_line h.rest in
      let whole = row before ▹ h.tree ▹ p.got.tree in
      record { tree = elim p.node_kind [ none ↦ whole | some k ↦ node k whole nil ]; errs = p.got.errs; rest = p.got.rest }

  -- An item begins with trivia, and the first other leaf says what it is. Text lines get no node.
  unfoldable pub item : Reader
  item ts =
      if peek (is Kind.HASH) (after trivia ts)
      then hash_item (while trivia ts) (after trivia ts)
      else (skip_trivia then skip inline then bump) ts

  -- Item after item; a source has no more of them than bytes.
  unfoldable pub file : ℕ → Reader
  file zero ts = record { tree = row ts; errs = []; rest = [] }
  file (suc f) [] = nothing []
  file (suc f) (t ∷ ts) = (item then (λ us. file f us)) (t ∷ ts)

-- The same bytes lexed with an angle string expected.
unfoldable pub relexed : List Leaf → List Leaf
relexed [] = []
relexed (t ∷ ts) = placed t.start (tokens true (bytes (t ∷ ts)))

-- The reading of a source, and of a define body: up to the first newline, without ROOT.
unfoldable pub parse : List ℕ → Got
parse bs = wrap Kind.ROOT (file (length bs) relexed (length bs)) (placed 0 (tokens false bs))

unfoldable pub parse_define_body : List ℕ → Forest  -- `Parser::parse_define_body`.
parse_define_body bs = node Kind.PP_DEFINE_BODY (pp_tokens (trimmed (while inline (placed 0 (tokens false bs))))) nil
