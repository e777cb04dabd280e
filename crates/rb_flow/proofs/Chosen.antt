-- Where an instruction leads if a test holds.
use Rattle.std.proofs.Common.{◌≡◌, ℕ, ◌+◌, ◌<◌, ◌&&◌, Bool, true, false, [], ◌∷◌, ◌++◌, length, get_or, Option, None, Result, Ok, Err, IfOk, refl, sym, ap, ◌∙◌, subst, arith}
use Rattle.std.proofs.lemmas.List.{append-nil, length_push}
use Rattle.std.proofs.Math.Seq.{get_or-append_seam}
use Rattle.rb_code.specs.Instructions.Plain.{Code}
use Rattle.rb_flow.specs.Flow.{Steps, goes, when}
use Rattle.rb_flow.specs.Held.{IsHeld, blocks_of, entry_of, operands_of}
use Rattle.rb_entries.specs.Parts.{block_of, mode_of}
use Rattle.rb_entries.specs.declared.entry.Mode.{Mode as HeldMode}
use Rattle.rb_entries.specs.declared.entry.Mode.TheVariants as variant
use Rattle.rb_entries.specs.declared.entry.OpenBlock.{OpenBlock as HeldBlock}
use Rattle.rb_flow.specs.Ways.{AreHeld, IsFlow, chosen, steps_of}
use Rattle.rb_entries.specs.declared.entry.Held.{Held}
use Rattle.rb_code.specs.SoundCode.Sound.{Changed}
use Rattle.rb_flow.specs.declared.lists.Lists.{Lists}
use Rattle.rb_flow.specs.declared.way.Way.{Way}
use Rattle.rb_flow.specs.declared.way.Way.TheVariants.{Broken, One}
use Rattle.rb_flow.proofs.Growing.{grown_itself}

pub chosen_leads : (c : Code) (lists : Lists) (test : Bool) (way : Way)
    → steps_of c lists (chosen test way) ≡ when test (steps_of c lists way)
chosen_leads c lists true way = refl
chosen_leads c lists false way = refl

pub chosen_held : (lists : Lists) (test : Bool) (way : Way) → AreHeld lists way → AreHeld lists (chosen test way)
chosen_held lists true way h = h
chosen_held lists false way h = tt

-- nothing was made
pub quiet_flow : (c : Code) (lists : Lists) (way : Way) (steps : Steps)
    → steps_of c lists way ≡ steps → AreHeld lists way → IsFlow c lists lists way steps
quiet_flow c lists way steps leads held = record { leads = leads; held = held; grown = grown_itself lists }

-- nothing was made by a last call
pub quiet_call : {E : Type 0} (c : Code) (lists : Lists) (r : Result Way E) (steps : Steps)
    → IfOk r (λ way. steps_of c lists way ≡ steps) → IfOk r (AreHeld lists) → IfOk r (λ way. IsFlow c lists lists way steps)
quiet_call c lists (Ok way) steps leads held = quiet_flow c lists way steps leads held
quiet_call c lists (Err e) steps leads held = tt

-- nothing is made where a test does not hold
pub refused_flow : (c : Code) (lists : Lists) (test : Bool) (steps : Steps) → test ≡ false → IsFlow c lists lists Broken (when test steps)
refused_flow c lists test steps is = quiet_flow c lists Broken (when test steps) (sym (ap (λ t. when t steps) is)) tt

-- what is made where it holds
pub passed_flow : {E : Type 0} (c : Code) (before after : Lists) (test : Bool) (r : Result Way E) (steps : Steps) → test ≡ true
    → IfOk r (λ way. IsFlow c before after way steps) → IfOk r (λ way. IsFlow c before after way (when test steps))
passed_flow c before after test r steps is made = subst (λ t. IfOk r (λ way. IsFlow c before after way (when t steps))) (sym is) made

-- an operand was put on
pub put_flow : (c : Code) (b : ℕ) (before after : Lists) (entry held : Held) (top : Option ℕ) (below : ℕ) (mode : HeldMode)
    → IsHeld before entry → after.operands ≡ before.operands ++ (top ∷ operands_of before below) ∷ [] → after.blocks ≡ before.blocks
    → held ≡ record entry { operands = length before.operands; mode = mode }
    → IsFlow c before after (One b held) (goes b (record
    (entry_of before entry) { operands = top ∷ operands_of before below; mode = mode_of mode }))
put_flow c b before after entry held top below mode is_held operands blocks is =
    let here : operands_of after (length before.operands) ≡ top ∷ operands_of before below
    = ap (λ xs. get_or xs (length before.operands) []) operands ∙ get_or-append_seam before.operands (top ∷ operands_of before below) [] []
    in let same : entry_of after held ≡ record (entry_of before entry) { operands = top ∷ operands_of before below; mode = mode_of mode }
    = ap (entry_of after) is ∙ (λ i. record (entry_of before entry) { operands = here i; blocks = get_or (blocks i) entry.blocks []; mode = mode_of mode })
    in let long : length after.operands ≡ length before.operands + 1 = ap length operands
    ∙ length_push before.operands (top ∷ operands_of before below)
    in let kept : length after.blocks ≡ length before.blocks = ap length blocks
    in let number : held.operands ≡ length before.operands = ap (λ h. h.operands) is
    in let block : held.blocks ≡ entry.blocks = ap (λ h. h.blocks) is
    in let old = is_held.blocks
    in record {
      leads = ap (goes b) same;
      held = record { operands = omega arith; blocks = omega arith };
      grown = record {
        operands = ((top ∷ operands_of before below) ∷ [], operands);
        blocks = ([], blocks ∙ sym (append-nil before.blocks));
      };
    }

-- both tests, one after the other
pub when_and : (a b : Bool) (steps : Steps) → when (a && b) steps ≡ when a (when b steps)
when_and true b steps = refl
when_and false b steps = refl

pub when_none : (test : Bool) → when test None ≡ None
when_none true = refl
when_none false = refl

-- a block was entered
pub block_flow : (c : Code) (b : ℕ) (before after : Lists) (entry held : Held) (block : HeldBlock) (empty : ℕ)
    → IsHeld before entry → after.operands ≡ before.operands → after.blocks ≡ before.blocks ++ (block_of block ∷ blocks_of before entry.blocks) ∷ []
    → operands_of before empty ≡ [] → empty < length before.operands
    → held ≡ record entry { operands = empty; blocks = length before.blocks; mode = variant.Changed }
    → IsFlow c before after (One b held)
    (goes b (record (entry_of before entry) { operands = []; blocks = block_of block ∷ blocks_of before entry.blocks; mode = Changed }))
block_flow c b before after entry held block empty is_held operands blocks none there is =
    let here : blocks_of after (length before.blocks) ≡ block_of block ∷ blocks_of before entry.blocks
    = ap (λ xs. get_or xs (length before.blocks) []) blocks ∙ get_or-append_seam before.blocks (block_of block ∷ blocks_of before entry.blocks) [] []
    in let nothing : operands_of after empty ≡ [] = ap (λ xs. get_or xs empty []) operands ∙ none
    in let same : entry_of after held ≡ record (entry_of before entry) {
      operands = [];
      blocks = block_of block ∷ blocks_of before entry.blocks;
      mode =
          Changed;
    }
    = ap (entry_of after) is ∙ (λ i. record (entry_of before entry) { operands = nothing i; blocks = here i; mode = Changed })
    in let long : length after.blocks ≡ length before.blocks + 1 = ap length blocks
    ∙ length_push before.blocks (block_of block ∷ blocks_of before entry.blocks)
    in let kept : length after.operands ≡ length before.operands = ap length operands
    in let number : held.operands ≡ empty = ap (λ h. h.operands) is
    in let of_block : held.blocks ≡ length before.blocks = ap (λ h. h.blocks) is
    in record {
      leads = ap (goes b) same;
      held = record { operands = omega arith; blocks = omega arith };
      grown = record {
        operands = ([], operands ∙ sym (append-nil before.operands));
        blocks = ((block_of block ∷ blocks_of before entry.blocks) ∷ [], blocks);
      };
    }
