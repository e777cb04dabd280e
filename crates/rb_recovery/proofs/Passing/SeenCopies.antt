-- The copy that a receiver sees of a sender, as both lists of levels are walked from the outside in; and that no more was sent by then.
use Rattle.std.proofs.Common.{◌≡◌, ℕ, zero, suc, ◌+◌, ◌≤◌, ℤ, Bool, true, false, cond, List, [], ◌∷◌, drop, slice_get, Option, Some, None, refl, ap, sym, subst, ◌∙◌, true≢false, add-one, arith}
use Rattle.std.proofs.lemmas.List.{drop_all}
use Rattle.rb_world.specs.Channels.{seen_copy}
use Rattle.rb_world.specs.Standing.{Each}
use Rattle.rb_world.specs.World.{Level, is_shared}
use Rattle.rb_world.proofs.ListFacts.{none_some, some_same}
use Rattle.rb_code.specs.Instructions.Plain.{Code}
use Rattle.rb_code.specs.SoundCode.Stands.{IsAmong}
use Rattle.rb_code.specs.WordMachine.Turn.{Copy}
use Rattle.rb_code.specs.WordMachine.WordKind.{cursor_in}
use Rattle.rb_code.specs.WordMachine.Workspace.{part_of}
use Rattle.rb_recovery.specs.Channels.{IsCopyAt, conversation_in, words_then}
use Rattle.rb_recovery.specs.Rising.{NoneFalls}

-- what is of no conversation is not shared
shared_none : (o : Option ℕ) → is_shared o None ≡ true → ⊥
shared_none None e = true≢false (sym e)
shared_none (Some c) e = true≢false (sym e)

-- a shared level is passed on both sides
passed : {C : Type 0} (ls ms : List (Level C)) (k : ℕ) → is_shared (conversation_in (slice_get ls k)) (conversation_in (slice_get ms k)) ≡ true
    → seen_copy (drop k ls) (drop k ms) ≡ seen_copy (drop (suc k) ls) (drop (suc k) ms)
passed [] ms k e = absurd (true≢false (sym e))
passed (l ∷ ls) [] zero e = absurd (shared_none l.facts.conversation e)
passed (l ∷ ls) [] (suc k) e = absurd (shared_none (conversation_in (slice_get ls k)) e)
passed (l ∷ ls) (m ∷ ms) zero e = ap (λ b. cond b (seen_copy ls ms) (Some l.copy)) e
passed (l ∷ ls) (m ∷ ms) (suc k) e = passed ls ms k e

pub shared_passes : {C : Type 0} (ls ms : List (Level C)) (k : ℕ)
    → is_shared (conversation_in (slice_get ls k)) (conversation_in (slice_get ms k)) ≡ true
    → seen_copy ls ms ≡ seen_copy (drop k ls) (drop k ms) → seen_copy ls ms ≡ seen_copy (drop (k + 1) ls) (drop (k + 1) ms)
shared_passes ls ms k e so_far =
    subst (λ n. seen_copy ls ms ≡ seen_copy (drop n ls) (drop n ms)) (sym (add-one k)) (so_far ∙ passed ls ms k e)

-- a level that is not shared is the sender's own
own_at : {C : Type 0} (ls ms : List (Level C)) (k : ℕ) (level : Level C) → slice_get ls k ≡ Some level
    → is_shared (conversation_in (slice_get ls k)) (conversation_in (slice_get ms k)) ≡ false → seen_copy (drop k ls) (drop k ms) ≡ Some level.copy
own_at [] ms k level there e = absurd (none_some there)
own_at (l ∷ ls) [] zero level there e = ap (λ (one : Level _). Some one.copy) (some_same there)
own_at (l ∷ ls) [] (suc k) level there e =
    subst (λ ms. seen_copy (drop k ls) ms ≡ Some level.copy) (drop_all k [] (omega arith)) (own_at ls [] k level there e)
own_at (l ∷ ls) (m ∷ ms) zero level there e =
    ap (λ b. cond b (seen_copy ls ms) (Some l.copy)) e ∙ ap (λ (one : Level _). Some one.copy) (some_same there)
own_at (l ∷ ls) (m ∷ ms) (suc k) level there e = own_at ls ms k level there e

pub own_is_seen : {C : Type 0} (ls ms : List (Level C)) (k : ℕ) (level : Level C) → slice_get ls k ≡ Some level
    → is_shared (conversation_in (slice_get ls k)) (conversation_in (slice_get ms k)) ≡ false → seen_copy ls ms ≡ seen_copy (drop k ls) (drop k ms)
    → IsCopyAt ls (Some k) (seen_copy ls ms)
own_is_seen ls ms k level there e so_far = (level, there, so_far ∙ own_at ls ms k level there e)

-- where no cursor has fallen since a level was entered, what is seen is no more than what was sent by now
pub seen_is_sent : (c : Code) (p channel : ℕ) (words : List ℤ) (ls ms : List (Level Copy)) → IsAmong channel (part_of c p).channels
    → Each (λ _ level. NoneFalls c p level.copy.words words) ls
    → cursor_in c p (words_then words (seen_copy ls ms)) channel ≤ cursor_in c p words channel
seen_is_sent c p channel words [] ms among risen = omega arith
seen_is_sent c p channel words (l ∷ ls) [] among risen = risen 0 l refl channel among
seen_is_sent c p channel words (l ∷ ls) (m ∷ ms) among risen =
    by (seen_is_sent c p channel words ls ms among (λ k. risen (suc k))) (is_shared l.facts.conversation m.facts.conversation)
  where
    by : cursor_in c p (words_then words (seen_copy ls ms)) channel ≤ cursor_in c p words channel → (shared : Bool)
        → cursor_in c p (words_then words (cond shared (seen_copy ls ms) (Some l.copy))) channel ≤ cursor_in c p words channel
    by inside true = inside
    by inside false = risen 0 l refl channel among
