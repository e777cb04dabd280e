-- One step from a conversation to the one right around it.
use Rattle.std.proofs.Common.{◌≡◌, ◌≢◌, ◌+◌, ◌-◌, ◌<◌, ◌≤◌, ℕ, suc, Bool, true, List, length, get_or, Option, Some, None, option_map, slice_get, refl, ap, ◌∙◌, arith}
use Rattle.std.proofs.lemmas.Option.{slice_get-map, slice_get_past, slice_get_read}
use Rattle.std.proofs.lemmas.Bool.Decides.{nat_tests}
use Rattle.rb_world.specs.Kind.{Membership}
use Rattle.rb_world.specs.Reject.{is_below, is_under, parent_of}
use Rattle.rb_conv.specs.Conversations.{Conversation, membership, memberships}

-- the conversation right around one that there is
pub parent_at : (conversations : List Conversation) (d : ℕ) (conversation : Conversation) → d < length conversations
    → conversation ≡ get_or conversations d conversation → parent_of (slice_get (memberships conversations) d) ≡ conversation.parent
parent_at conversations d conversation h e =
    ap parent_of (slice_get-map membership conversations d)
    ∙ ap (λ (o : Option Conversation). parent_of (option_map membership o))
    (slice_get_read conversations (length conversations) d conversation refl h e)

-- one step, with at least one left
pub below_step : (groups : List Membership) (n i c d : ℕ) → i < n
    → is_below groups (n - i) c d ≡ is_under (is_below groups (n - (i + 1)) c) c (parent_of (slice_get groups d))
below_step groups n i c d h =
    let e : n - i ≡ suc (n - (i + 1)) = omega arith in
    ap (λ (k : ℕ). is_below groups k c d) e

-- around none that there is
pub parent_past : (conversations : List Conversation) (d : ℕ) → length conversations ≤ d
    → parent_of (slice_get (memberships conversations) d) ≡ None
parent_past conversations d h =
    ap parent_of (slice_get-map membership conversations d)
    ∙ ap (λ (o : Option Conversation). parent_of (option_map membership o)) (slice_get_past conversations d h)

-- a step to the conversation itself
pub under_itself : (higher : ℕ → Bool) (c e : ℕ) → e ≡ c → is_under higher c (Some e) ≡ true
under_itself higher c e same = grind (arith, nat_tests)

-- a step to a parent that is another conversation
pub under_other : (higher : ℕ → Bool) (c e : ℕ) → e ≢ c → is_under higher c (Some e) ≡ higher e
under_other higher c e ne = grind (arith, nat_tests)
