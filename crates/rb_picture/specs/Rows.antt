-- Worked traces: the first turns of a program with a conversation, and the turn in which that is rejected.
use Prim.Native.String.{String}
use Rattle.std.specs.Prelude.{◌≡◌, ◌-◌, ℕ, List, [], ◌∷◌, ◌++◌, codes, take, slice_get, Some}
use Rattle.rb_base.specs.declared.place.Place.{Place}
use Rattle.rb_syntax.specs.declared.expression.Op.TheVariants.{Add, Gt, Lt, Sub}
use Rattle.rb_syntax.specs.Tree.{Identifier, Variable, Reference, Refer, Scalar, PrintItem, Words, Amount, Assignment, Loop, Printing, Receiving, Recovering, Recovers, Sending, NoElse, Tree}
use Rattle.rb_meaning.specs.Meaning.{naming_of, run_of}
use Rattle.rb_meaning.specs.Rows.Build.{alternates, block, called, channel_called, conversation_called, natural_number, of, process_called, program_called, rounds, scalar, two, variable, whole}
use Rattle.rb_picture.specs.Meant.{tree_reading, tree_trace_text}
use Rattle.rb_picture.specs.Trace.{turn_of}

-- a place, and a name there
abbrev pub on : ℕ → ℕ → Place
on line column = record { line = line; column = column }

abbrev pub called_at : ℕ → ℕ → String → Identifier
called_at line column x = record { text = codes x; place = on line column; id = 0 }

abbrev pub variable_at : ℕ → ℕ → String → Reference
variable_at line column x = Refer (called_at line column x) Scalar

-- an item of a `print` at a place
abbrev pub text_at : ℕ → ℕ → String → PrintItem
text_at line column text = record { place = on line column; what = Words (codes text) }

abbrev pub value_at : ℕ → ℕ → String → PrintItem
value_at line column x = record { place = on line column; what = Amount (of x) }

--  1  program step4;
--  2  channel offer from buyer to shop size 2;
--  3  conversation Deal (buyer, shop);
--  4  process buyer {
--  5    var price; var rest;
--  6    rest := 100;
--  7    converse Deal ensure price > 0 within 20
--  8    by { price := 40; rest := rest - price; send offer price; print "offers", price; }
--  9    else by { price := 60; rest := rest - price; send offer price; print "offers", price; }
-- 10    else error;
-- 11  }
-- 12  process shop {
-- 13    var bid; var day;
-- 14    while day < 3 { day := day + 1; }
-- 15    converse Deal ensure bid > 50 within 20
-- 16    by { receive offer bid; }
-- 17    else by { receive offer bid; print "sells for", bid; }
-- 18    else error;
-- 19  }
-- 20  end.
abbrev pub deal_tree : Tree
deal_tree =
    let offer_1 = Assignment (variable_at 8 8 "price") (whole 40) ∷ Assignment (variable_at 8 21 "rest") (two Sub (of "rest") (of "price"))
    ∷ Sending (called_at 8 48 "offer") (of "price") ∷ Printing (text_at 8 67 "offers" ∷ value_at 8 77 "price" ∷ []) ∷ [] in
    let offer_2 = Assignment (variable_at 9 13 "price") (whole 60) ∷ Assignment (variable_at 9 26 "rest") (two Sub (of "rest") (of "price"))
    ∷ Sending (called_at 9 53 "offer") (of "price") ∷ Printing (text_at 9 72 "offers" ∷ value_at 9 82 "price" ∷ []) ∷ [] in
    let buys = Recovering (Recovers 0 (Some (called "Deal")) (on 7 17) (two Gt (of "price") (whole 0)) (natural_number 20)
    (alternates (block offer_1 ∷ block offer_2 ∷ []))) in
    let waits = Loop (two Lt (Variable (variable_at 14 9 "day")) (whole 3)) (block (Assignment (variable_at 14 19 "day") (two Add (of "day") (whole 1)) ∷ [])) in
    let takes_1 = Receiving (called_at 16 16 "offer") (variable "bid") NoElse ∷ [] in
    let takes_2 = Receiving (called_at 17 21 "offer") (variable "bid") NoElse
    ∷ Printing (text_at 17 38 "sells for" ∷ value_at 17 51 "bid" ∷ []) ∷ [] in
    let sells = Recovering (Recovers 1 (Some (called "Deal")) (on 15 17) (two Gt (of "bid") (whole 50)) (natural_number 20)
    (alternates (block takes_1 ∷ block takes_2 ∷ []))) in
    let buyer = process_called "buyer" (scalar "price" ∷ scalar "rest" ∷ []) []
    (Assignment (variable_at 6 3 "rest") (whole 100) ∷ buys ∷ []) in
    let shop = process_called "shop" (scalar "bid" ∷ scalar "day" ∷ []) [] (waits ∷ sells ∷ []) in
    program_called "step4" (channel_called "offer" "buyer" "shop" 2 ∷ []) (conversation_called "Deal" (called "buyer" ∷ called "shop" ∷ []) ∷ [])
    (buyer ∷ shop ∷ [])

-- The whole trace of its first three turns.
abbrev pub FirstTurns : Type 0
FirstTurns =
    tree_trace_text deal_tree (take 3 (rounds 2 2))
    ≡ codes "trace 1\nedition 1\nprocess buyer\nvar buyer price -\nvar buyer rest -\nprocess shop\nvar shop bid -\nvar shop day -\n"
    ++ (codes "channel offer from buyer to shop size 2\nconversation Deal parent - alternates 2 members buyer shop\n"
    ++ (codes "block 0 line 7 conversation Deal within 20 alternates 2\nblock 1 line 15 conversation Deal within 20 alternates 2\nturns 3\n"
    ++ (codes "1 turn buyer 6:3 took step\n1 var buyer rest - 100\n2 turn shop 14:9 took step\n"
    ++ (codes "3 turn buyer 7:17 took enter 0\n3 levels buyer 1\n3 level buyer 1 block 0 alternate 1 used 0 entered 3\n"
    ++ codes "end 3\nbuyer open 1\nbuyer.price = 0\nbuyer.rest = 100\nshop open 0\nshop.bid = 0\nshop.day = 0\noffer sent 0 taken 0\n"))))

-- turn t, after the turns before it, in which both processes took their turns one after the other
abbrev pub turn_after : ℕ → ℕ → List ℕ
turn_after t p =
    let before = (run_of deal_tree (take (t - 1) (rounds t 2))).0 in
    turn_of (tree_reading deal_tree) (naming_of deal_tree) t p (slice_get before.processes p) before

-- The turn in which the shop's acceptance test fails: both go back to their recovery points, and the message is taken back.
abbrev pub Rejection : Type 0
Rejection =
    turn_after 22 1
    ≡ codes "22 turn shop 15:17 undone\n22 reject Deal 1 by shop test\n22 back buyer to 3\n22 back shop to 16\n22 var buyer price - 0\n"
    ++ (codes "22 var buyer rest - 100\n22 level buyer 1 block 0 alternate 2 used 0 entered 3\n22 held buyer 0\n22 state buyer runs\n"
    ++ (codes "22 var shop bid - 0\n22 level shop 1 block 1 alternate 2 used 0 entered 16\n"
    ++ codes "22 channel offer sent 0 taken 0 seen 0 free 2\n22 conversation Deal alternate 2\n"))
