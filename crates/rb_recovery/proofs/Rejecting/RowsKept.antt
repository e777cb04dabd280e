-- What the rejection of a conversation leaves in the table: numbers of alternates, and the rows that are neither it nor below it.
use Rattle.std.proofs.Common.{◌≡◌, ◌≢◌, ◌<◌, ℕ, zero, suc, ◌+◌, Bool, true, false, cond, List, [], ◌∷◌, length, Option, Some, None, refl, sym, ap, ◌∙◌, subst, ne_eqb}
use Rattle.rb_world.specs.Reject.{is_below}
use Rattle.rb_world.specs.World.{change_at}
use Rattle.rb_world.proofs.ListFacts.{length-change_at}
use Rattle.rb_conv.specs.Conversations.{Conversation, conversation_at, emptied, memberships}
use Rattle.rb_conv.specs.Reject.{emptied_below, emptied_from, exhausted, has_next, put_back, rejected}
use Rattle.rb_conv.proofs.EmptyBelow.{length-emptied_from}
use Rattle.rb_conv.proofs.WhoIsInside.{others_stay}
use Rattle.rb_recovery.specs.Worlds.{counts_of}

length-emptied_below : (table : List Conversation) (c : ℕ) → length (emptied_below c table) ≡ length table
length-emptied_below table c = length-emptied_from (is_below (memberships table) (length table) c) 0 table

-- there are as many conversations
pub length-rejected : (table : List Conversation) (c : ℕ) → length (rejected c table) ≡ length table
length-rejected table c =
    length-change_at c (put_back (has_next (conversation_at table c))) (emptied_below c table) ∙ length-emptied_below table c

-- a conversation that is neither c nor below it stays as it is
pub row_beside : (table : List Conversation) (c d : ℕ) → c < length table → d < length table → d ≢ c
    → is_below (memberships table) (length table) c d ≡ false
    → conversation_at (rejected c table) d ≡ conversation_at table d
row_beside table c d there within other none =
    let f = put_back (has_next (conversation_at table c)) in
    let below = emptied_below c table in
    others_stay.0 f below c d (subst (λ (n : ℕ). c < n) (sym (length-emptied_below table c)) there)
    ∙ ap (λ (b : Bool). cond b (f (conversation_at below d)) (conversation_at below d)) (ne_eqb d c other)
    ∙ others_stay.1 table c d within
    ∙ ap (λ (b : Bool). cond b (emptied (conversation_at table d)) (conversation_at table d)) none

-- a conversation has the same number of alternates
count_emptied : (b : Bool) (x : Conversation) → (cond b (emptied x) x).alternates ≡ x.alternates
count_emptied true x = refl
count_emptied false x = refl

count_exhausted : (parent : Option ℕ) (x : Conversation) → (exhausted parent x).alternates ≡ x.alternates
count_exhausted None x = refl
count_exhausted (Some e) x = refl

count_put_back : (left : Bool) (x : Conversation) → (put_back left x).alternates ≡ x.alternates
count_put_back true x = refl
count_put_back false x = count_exhausted x.parent x

counts_changed : (f : Conversation → Conversation) (c : ℕ) (table : List Conversation) → ((x : Conversation) → (f x).alternates ≡ x.alternates)
    → counts_of (change_at c f table) ≡ counts_of table
counts_changed f c [] same = refl
counts_changed f zero (x ∷ table) same = ap (λ (n : ℕ). n ∷ counts_of table) (same x)
counts_changed f (suc c) (x ∷ table) same = ap (λ (ns : List ℕ). x.alternates ∷ ns) (counts_changed f c table same)

counts_emptied : (below : ℕ → Bool) (d : ℕ) (table : List Conversation) → counts_of (emptied_from below d table) ≡ counts_of table
counts_emptied below d [] = refl
counts_emptied below d (x ∷ table) =
    ap (λ (n : ℕ). n ∷ counts_of (emptied_from below (d + 1) table)) (count_emptied (below d) x)
    ∙ ap (λ (ns : List ℕ). x.alternates ∷ ns) (counts_emptied below (d + 1) table)

-- and so have all of them
pub counts_rejected : (table : List Conversation) (c : ℕ) → counts_of (rejected c table) ≡ counts_of table
counts_rejected table c =
    let left = has_next (conversation_at table c) in
    counts_changed (put_back left) c (emptied_below c table) (count_put_back left)
    ∙ counts_emptied (is_below (memberships table) (length table) c) 0 table
