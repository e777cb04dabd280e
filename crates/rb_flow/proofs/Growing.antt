-- What stands in lists that grow.
use Rattle.std.proofs.Common.{◌≡◌, ℕ, ◌<◌, List, [], length, get_or, sym, ap, ◌∙◌, arith}
use Rattle.std.proofs.lemmas.List.{get_or_append_left, length-append, append-nil}
use Rattle.rb_entries.specs.declared.entry.Held.{Held}
use Rattle.rb_flow.specs.Held.{HasGrown, IsFront, IsHeld, entry_of}
use Rattle.rb_flow.specs.declared.lists.Lists.{Lists}

pub front_keeps : {X : Type 0} (xs ys : List (List X)) (i : ℕ) → IsFront xs ys → i < length xs → get_or ys i [] ≡ get_or xs i []
front_keeps xs ys i (more, is) h = ap (λ zs. get_or zs i []) is ∙ get_or_append_left xs more [] i h

front_long : {X : Type 0} (xs ys : List (List X)) (i : ℕ) → IsFront xs ys → i < length xs → i < length ys
front_long xs ys i (more, is) h = let l = ap length is ∙ length-append xs more in omega arith

pub grown_held : (before after : Lists) (h : Held) → HasGrown before after → IsHeld before h → IsHeld after h
grown_held before after h grown held = record {
  operands = front_long before.operands after.operands h.operands grown.operands held.operands;
  blocks = front_long before.blocks after.blocks h.blocks grown.blocks held.blocks;
}

pub grown_entry : (before after : Lists) (h : Held) → HasGrown before after → IsHeld before h → entry_of after h ≡ entry_of before h
grown_entry before after h grown held =
    let os = front_keeps before.operands after.operands h.operands grown.operands held.operands
    in let bs = front_keeps before.blocks after.blocks h.blocks grown.blocks held.blocks
    in λ i. record (entry_of before h) { operands = os i; blocks = bs i }

pub grown_itself : (lists : Lists) → HasGrown lists lists
grown_itself lists = record { operands = ([], sym (append-nil lists.operands)); blocks = ([], sym (append-nil lists.blocks)) }
