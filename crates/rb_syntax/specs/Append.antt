-- One row of a plain tree after another.
use Rattle.rb_syntax.specs.Tree.{Links, NoLink, Linked, Commands, NoCommand, Then, Alternates, NoAlternate, Alternate}

-- operators with their right operands, and others after them
abbrev pub links_append : Links → Links → Links
links_append NoLink after = after
links_append (Linked op right links) after = Linked op right (links_append links after)

-- statements, and others after them
abbrev pub commands_append : Commands → Commands → Commands
commands_append NoCommand after = after
commands_append (Then first rest) after = Then first (commands_append rest after)

-- alternates, and others after them
abbrev pub alternates_append : Alternates → Alternates → Alternates
alternates_append NoAlternate after = after
alternates_append (Alternate body others) after = Alternate body (alternates_append others after)
