-- An entry of the code, in the definition's words.
use Rattle.std.specs.Prelude.{ℕ}
use Rattle.definition.specs.Tree as tree
use Rattle.tree.specs.declared.entry.Entry.{Entry}
use Rattle.tree.specs.declared.entry.Form.{Form}
use Rattle.tree.specs.declared.entry.Form.TheVariants.{Leaf, Node}

-- The number of a form.
abbrev pub number : Form → ℕ
number Leaf = tree.Form.leaf
number Node = tree.Form.node

abbrev pub entry_of : Entry → tree.Entry
entry_of e = record { form = number e.form; kind = e.kind; level = e.level; start = e.start; end = e.end }
