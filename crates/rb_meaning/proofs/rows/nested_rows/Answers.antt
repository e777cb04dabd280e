-- Each row is computed.
use Rattle.std.proofs.Common.{refl}
use Rattle.rb_meaning.proofs.rows.nested_rows.Goals as goal

pub returns-clause-conversation : goal.returns-clause-conversation
returns-clause-conversation c = record { n1 = refl; n2 = refl; n4 = refl; n5 = refl; n8 = refl; n9 = refl; n10 = refl; n12 = refl }

pub returns-clause-conversation_in_conversation : goal.returns-clause-conversation_in_conversation
returns-clause-conversation_in_conversation c = record { n1 = refl; n2 = refl; n4 = refl; n5 = refl; n8 = refl; n9 = refl; n10 = refl; n12 = refl }

pub returns-clause-private_message : goal.returns-clause-private_message
returns-clause-private_message c = record { n1 = refl; n2 = refl; n4 = refl; n5 = refl; n8 = refl; n9 = refl; n10 = refl; n12 = refl }

pub returns-clause-converse_in_ensure : goal.returns-clause-converse_in_ensure
returns-clause-converse_in_ensure c = refl
