-- What is left to read, lexed once more where an angle string is expected.
use Rattle.std.specs.Prelude.{ℕ, ◌≡◌, List}
use Rattle.definition.specs.Syntax.{relexed}
use Rattle.parser.specs.declared.Seen.{Seen}
use Rattle.parser.specs.Rest.{unread, Held}

pub record Again (src : List ℕ) (x r : Seen) : Type 0 where
  pub rest : unread src r ≡ relexed (unread src x)
  pub held : Held src r
