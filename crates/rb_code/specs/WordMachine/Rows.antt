-- Worked codes: how they are listed, and what their runs print, which is what the runs of their trees print.
use Rattle.std.specs.Prelude.{◌≡◌, pos, List, [], ◌∷◌, codes, Some, None}
use Rattle.rb_base.specs.declared.edition.Edition.TheVariants.{First}
use Rattle.rb_world.specs.Kind.{Membership}
use Rattle.rb_meaning.specs.Meaning.{naming_of}
use Rattle.rb_meaning.specs.Rows.Build.{first, rounds, times}
use Rattle.rb_meaning.specs.Rows.Blocks.{smallest_tree, one_rejection_tree}
use Rattle.rb_meaning.specs.Rows.Conversations.{conversation_tree}
use Rattle.rb_code.specs.Instructions.Plain.{Code}
use Rattle.rb_code.specs.Instructions.Listing.{listing_text}
use Rattle.rb_code.specs.WordMachine.WordRun.{word_text}
use Rattle.rb_code.specs.declared.instr.Spot.TheVariants.{Global}
use Rattle.rb_code.specs.declared.instr.Instr.TheVariants.{Turn, Push, Load, Store, Add, Eq, Gt, Jump, Text, Item, Print, Room, Put, There, Take, Enter, Start, Test, Done}

-- the code of rb_meaning's `smallest_tree`
abbrev pub smallest_code : Code
smallest_code = record {
  edition = First;
  instrs = Turn ∷ Push (pos 1) ∷ Store (Global 0) ∷ Turn ∷ Text 0 ∷ Load (Global 0) ∷ Item ∷ Print ∷ Done ∷ [];
  processes = record { start = 0; words = 1; channels = []; procedures = [] } ∷ [];
  blocks = [];
  channels = [];
  texts = codes "x" ∷ [];
  names = naming_of smallest_tree;
}

abbrev pub SmallestListing : Type 0
SmallestListing =
    listing_text smallest_code
    ≡ codes "process p\n0 turn\n1 push 1\n2 store g 0\n3 turn\n4 text \"x\"\n5 load g 0\n6 item\n7 print\n8 done\n"

abbrev pub SmallestRun : Type 0
SmallestRun = word_text smallest_code [] (times 2 first) ≡ codes "2 out p x 1\n2 done p\nend 2\np done\np.x = 1\n"

-- the code of `one_rejection_tree`, whose first alternate is rejected
abbrev pub one_rejection_code : Code
one_rejection_code = record {
  edition = First;
  instrs =
      Turn ∷ Push (pos 5) ∷ Store (Global 0) ∷ Turn ∷ Enter 0 ∷ Turn ∷ Start 0
      ∷ Turn ∷ Load (Global 0) ∷ Push (pos 1) ∷ Add ∷ Store (Global 0) ∷ Turn ∷ Text 0 ∷ Print ∷ Jump 24
      ∷ Turn ∷ Load (Global 0) ∷ Push (pos 2) ∷ Add ∷ Store (Global 0) ∷ Turn ∷ Text 1 ∷ Print
      ∷ Turn ∷ Load (Global 0) ∷ Push (pos 6) ∷ Gt ∷ Test 0 ∷ Done ∷ [];
  processes = record { start = 0; words = 1; channels = []; procedures = [] } ∷ [];
  blocks = record { line = 4; conversation = None; bound = 9; restart = 5; test = 24; alternates = 7 ∷ 16 ∷ [] } ∷ [];
  channels = [];
  texts = codes "one" ∷ codes "two" ∷ [];
  names = naming_of one_rejection_tree;
}

abbrev pub OneRejectionListing : Type 0
OneRejectionListing =
    listing_text one_rejection_code
    ≡ codes "process p\n0 turn\n1 push 5\n2 store g 0\n3 turn\n4 enter 0\n5 turn\n6 start 0\n7 turn\n8 load g 0\n9 push 1\n10 add\n11 store g 0\n12 turn\n13 text \"one\"\n14 print\n15 jump 24\n16 turn\n17 load g 0\n18 push 2\n19 add\n20 store g 0\n21 turn\n22 text \"two\"\n23 print\n24 turn\n25 load g 0\n26 push 6\n27 gt\n28 test 0\n29 done\nblock 0 line 4 ensure within 9 restart 5 test 24 alternates 7 16\n"

abbrev pub OneRejectionRun : Type 0
OneRejectionRun =
    word_text one_rejection_code [] (times 20 first)
    ≡ codes "6 reject p ensure 4 1 test\n10 out p two\n10 done p\nend 20\np done\np.x = 7\n"

-- the code of `conversation_tree`, two members that go back together once
abbrev pub conversation_code : Code
conversation_code = record {
  edition = First;
  instrs =
      Turn ∷ Enter 0 ∷ Turn ∷ Start 0
      ∷ Turn ∷ Push (pos 1) ∷ Store (Global 0) ∷ Turn ∷ Room 0 ∷ Push (pos 5) ∷ Put 0 ∷ Turn ∷ Text 0 ∷ Print ∷ Jump 25
      ∷ Turn ∷ Push (pos 2) ∷ Store (Global 0) ∷ Turn ∷ Room 0 ∷ Push (pos 6) ∷ Put 0 ∷ Turn ∷ Text 1 ∷ Print
      ∷ Turn ∷ Load (Global 0) ∷ Push (pos 0) ∷ Gt ∷ Test 0 ∷ Done
      ∷ Turn ∷ Enter 1 ∷ Turn ∷ Start 1
      ∷ Turn ∷ There 0 ∷ Take 0 ∷ Store (Global 0) ∷ Turn ∷ Text 2 ∷ Load (Global 0) ∷ Item ∷ Print ∷ Jump 54
      ∷ Turn ∷ There 0 ∷ Take 0 ∷ Store (Global 0) ∷ Turn ∷ Text 3 ∷ Load (Global 0) ∷ Item ∷ Print
      ∷ Turn ∷ Load (Global 0) ∷ Push (pos 6) ∷ Eq ∷ Test 1 ∷ Done ∷ [];
  processes =
      record { start = 0; words = 1; channels = 0 ∷ []; procedures = [] } ∷ record { start = 31; words = 1; channels = 0 ∷ []; procedures = [] } ∷ [];
  blocks =
      record { line = 5; conversation = Some 0; bound = 20; restart = 2; test = 25; alternates = 4 ∷ 15 ∷ [] }
      ∷ record { line = 8; conversation = Some 0; bound = 20; restart = 33; test = 54; alternates = 35 ∷ 45 ∷ [] } ∷ [];
  channels = record { sender = 0; receiver = 1; size = 4 } ∷ [];
  texts = codes "p1" ∷ codes "p2" ∷ codes "q" ∷ codes "q" ∷ [];
  names = naming_of conversation_tree;
}

abbrev pub conversation_groups : List Membership
conversation_groups = record { members = 0 ∷ 1 ∷ []; parent = None } ∷ []

abbrev pub ConversationRun : Type 0
ConversationRun =
    word_text conversation_code conversation_groups (rounds 12 2)
    ≡ codes "12 reject C 1 by q test\n22 pass C 2\n22 out p p2\n22 out q q 6\n22 done p\n22 done q\nend 24\np done\np.a = 2\nq done\nq.b = 6\nc sent 1 taken 1\n"
