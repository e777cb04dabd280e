-- A channel of which a process is an end is among its channels.
use Rattle.std.proofs.Common.{◌≡◌, ℕ, zero, suc, ◌+◌, ◌<◌, ◌||◌, nat_eq, Bool, true, false, cond, List, [], ◌∷◌, length, slice_get, Option, Some, None, refl, ap, sym, subst, arith, eq-eqb}
use Rattle.std.specs.Option.{unwrap_or}
use Rattle.rb_world.specs.Kind.{Ends}
use Rattle.rb_code.specs.Instructions.Plain.{Code, Part}
use Rattle.rb_code.specs.WordMachine.Workspace.{part_of, no_part, place_among}
use Rattle.rb_code.specs.SoundCode.Sound.{IsReceiver, IsSender}
use Rattle.rb_code.specs.SoundCode.Safe.{IsThere}
use Rattle.rb_code.specs.SoundCode.Stands.{IsAmong}
use Rattle.rb_code.specs.Agreement.StandsFor.{channels_from}
use Rattle.rb_code.specs.SoundCode.WellFormed.{ListsChannels}

among_first : (x : ℕ) (others : List ℕ) → IsAmong x (x ∷ others)
among_first x others =
    subst (λ b. cond b 0 (suc (place_among x others)) < suc (length others)) (sym (eq-eqb x x refl)) (omega arith)

among_others : (x d : ℕ) (others : List ℕ) → IsAmong x others → IsAmong x (d ∷ others)
among_others x d others h = by (nat_eq d x)
  where
    by : (b : Bool) → cond b 0 (suc (place_among x others)) < suc (length others)
    by true = omega arith
    by false = omega arith

-- process p is an end
abbrev pub is_end : ℕ → Ends → Bool
is_end p ends = nat_eq ends.sender p || nat_eq ends.receiver p

abbrev pub IsEnd : Option Ends → ℕ → Type 0
IsEnd None p = ⊥
IsEnd (Some ends) p = is_end p ends ≡ true

among_from : (p from channel : ℕ) (list : List Ends) → IsEnd (slice_get list channel) p → IsAmong (from + channel) (channels_from p from list)
among_from p from channel [] h = absurd h
among_from p from zero (ends ∷ others) h =
    subst (λ b. IsAmong (from + 0) (cond b (from ∷ channels_from p (from + 1) others) (channels_from p (from + 1) others))) (sym h)
    (subst (λ x. IsAmong x (from ∷ channels_from p (from + 1) others)) (omega arith) (among_first from (channels_from p (from + 1) others)))
among_from p from (suc channel) (ends ∷ others) h = by (is_end p ends) (among_from p (from + 1) channel others h)
  where
    by : (b : Bool) → IsAmong ((from + 1) + channel) (channels_from p (from + 1) others)
        → IsAmong (from + suc channel) (cond b (from ∷ channels_from p (from + 1) others) (channels_from p (from + 1) others))
    by true k =
        among_others (from + suc channel) from (channels_from p (from + 1) others)
        (subst (λ x. IsAmong x (channels_from p (from + 1) others)) (omega arith) k)
    by false k = subst (λ x. IsAmong x (channels_from p (from + 1) others)) (omega arith) k

module _ (c : Code) (lists : ListsChannels c) (p : ℕ) (exists : IsThere (slice_get c.processes p)) where
  among : (channel : ℕ) → IsEnd (slice_get c.channels channel) p → IsAmong channel (part_of c p).channels
  among channel h = by (slice_get c.processes p) refl exists
    where
      by : (o : Option Part) → slice_get c.processes p ≡ o → IsThere o → IsAmong channel (part_of c p).channels
      by None q k = absurd k
      by (Some part) q k =
          subst (λ o. IsAmong channel (unwrap_or o no_part).channels) (sym q)
          (subst (IsAmong channel) (sym (lists p part q)) (subst (λ x. IsAmong x (channels_from p 0 c.channels)) (omega arith)
          (among_from p 0 channel c.channels h)))

  sender_end : (o : Option Ends) → IsSender o p → IsEnd o p
  sender_end None h = absurd h
  sender_end (Some ends) h = ap (λ b. b || nat_eq ends.receiver p) (eq-eqb ends.sender p h)

  receiver_end : (o : Option Ends) → IsReceiver o p → IsEnd o p
  receiver_end None h = absurd h
  receiver_end (Some ends) h = by (nat_eq ends.sender p)
    where
      by : (b : Bool) → (b || nat_eq ends.receiver p) ≡ true
      by true = refl
      by false = eq-eqb ends.receiver p h

  pub sends : (channel : ℕ) → IsSender (slice_get c.channels channel) p → IsAmong channel (part_of c p).channels
  sends channel h = among channel (sender_end (slice_get c.channels channel) h)

  pub receives : (channel : ℕ) → IsReceiver (slice_get c.channels channel) p → IsAmong channel (part_of c p).channels
  receives channel h = among channel (receiver_end (slice_get c.channels channel) h)
