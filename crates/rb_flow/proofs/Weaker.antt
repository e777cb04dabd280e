-- Weaker entries: each is weaker than itself, and what is weaker than a weaker one is.
use Rattle.std.proofs.Common.{◌≡◌, ◌↔◌, ℕ, List, [], ◌∷◌, filter, Option, Some, None, refl, sym, ap, ◌∙◌, subst}
use Rattle.rb_code.specs.SoundCode.Sound.{BeginsAs, Entry, Has, IsWeaker, WeakerMode, WeakerOperand, WeakerOperands, at_address, freed, is_in, Mode, Fresh, MayPut, MayTake, Begun, Free, Changed}
use Rattle.rb_flow.specs.Flow.{begins}

pub operand_itself : (o : Option ℕ) → WeakerOperand o o
operand_itself None = tt
operand_itself (Some n) = refl

pub operands_itself : (os : List (Option ℕ)) → WeakerOperands os os
operands_itself [] = tt
operands_itself (o ∷ os) = (operand_itself o, operands_itself os)

pub mode_itself : (m : Mode) → WeakerMode m m
mode_itself Fresh = refl
mode_itself (MayPut d) = refl
mode_itself (MayTake d) = refl
mode_itself Begun = refl
mode_itself Free = refl
mode_itself Changed = tt

pub operand_on : (o p q : Option ℕ) → WeakerOperand o p → WeakerOperand p q → WeakerOperand o q
operand_on o p None h k = tt
operand_on o None (Some n) h k = absurd k
operand_on None (Some m) (Some n) h k = absurd h
operand_on (Some l) (Some m) (Some n) h k = h ∙ k

pub operands_on : (os ps qs : List (Option ℕ)) → WeakerOperands os ps → WeakerOperands ps qs → WeakerOperands os qs
operands_on [] [] [] h k = tt
operands_on [] [] (q ∷ qs) h k = absurd k
operands_on [] (p ∷ ps) qs h k = absurd h
operands_on (o ∷ os) [] qs h k = absurd h
operands_on (o ∷ os) (p ∷ ps) [] h k = absurd k
operands_on (o ∷ os) (p ∷ ps) (q ∷ qs) h k = (operand_on o p q h.0 k.0, operands_on os ps qs h.1 k.1)

-- a weaker mode is the same, or changed
pub weaker_mode : (m n : Mode) → WeakerMode m n → (n ≡ Changed → ⊥) → m ≡ n
weaker_mode m Fresh h k = h
weaker_mode m (MayPut d) h k = h
weaker_mode m (MayTake d) h k = h
weaker_mode m Begun h k = h
weaker_mode m Free h k = h
weaker_mode m Changed h k = absurd (k refl)

pub mode_on : (m n o : Mode) → WeakerMode m n → WeakerMode n o → WeakerMode m o
mode_on m n Changed h k = tt
mode_on m n Fresh h k = weaker_mode m n h (λ e. let x : Changed ≡ Fresh = (cc) in cc) ∙ k
mode_on m n (MayPut d) h k = weaker_mode m n h (λ e. let x : Changed ≡ MayPut d = (cc) in cc) ∙ k
mode_on m n (MayTake d) h k = weaker_mode m n h (λ e. let x : Changed ≡ MayTake d = (cc) in cc) ∙ k
mode_on m n Begun h k = weaker_mode m n h (λ e. let x : Changed ≡ Begun = (cc) in cc) ∙ k
mode_on m n Free h k = weaker_mode m n h (λ e. let x : Changed ≡ Free = (cc) in cc) ∙ k

pub mode_freed : (m n : Mode) → WeakerMode m n → WeakerMode (freed m) (freed n)
mode_freed m Changed h = tt
mode_freed m Fresh h = ap freed h
mode_freed m (MayPut d) h = ap freed h
mode_freed m (MayTake d) h = ap freed h
mode_freed m Begun h = ap freed h
mode_freed m Free h = ap freed h

pub itself : (e : Entry) → IsWeaker e e
itself e = record {
  within = refl;
  operands = operands_itself e.operands;
  words = refl;
  blocks = refl;
  loops = refl;
  pieces = refl;
  mode = mode_itself e.mode;
}

pub weaker_on : (e f g : Entry) → IsWeaker e f → IsWeaker f g → IsWeaker e g
weaker_on e f g h k = record {
  within = k.within ∙ h.within;
  operands = operands_on e.operands f.operands g.operands h.operands k.operands;
  words = k.words ∙ h.words;
  blocks = k.blocks ∙ h.blocks;
  loops = k.loops ∙ h.loops;
  pieces = k.pieces ∙ h.pieces;
  mode = mode_on e.mode f.mode g.mode h.mode k.mode;
}

-- two entries that are alike in all but operands and mode
pub alike : (e : Entry) (os ps : List (Option ℕ)) (m n : Mode) → WeakerOperands os ps → WeakerMode m n
    → IsWeaker (record e { operands = os; mode = m }) (record e { operands = ps; mode = n })
alike e os ps m n h k = record { within = refl; operands = h; words = refl; blocks = refl; loops = refl; pieces = refl; mode = k }

pub arrives_weaker : (a : ℕ) (e g : Entry) → IsWeaker e g → IsWeaker (at_address a e) (at_address a g)
arrives_weaker a e g h = record {
  within = h.within;
  operands = h.operands;
  words = h.words;
  blocks = h.blocks;
  loops = ap (filter (is_in a)) h.loops;
  pieces = h.pieces;
  mode = h.mode;
}

-- what has a weaker entry than a weaker one has one
pub has_stronger : (o : Option Entry) (e g : Entry) → IsWeaker e g → Has o g → Has o e
has_stronger None e g h k = absurd k
has_stronger (Some f) e g h k = weaker_on e g f h k

pub no_operands : (os : List (Option ℕ)) → WeakerOperands [] os → os ≡ []
no_operands [] h = refl
no_operands (o ∷ os) h = absurd h

pub still_changed : (m : Mode) → WeakerMode Changed m → m ≡ Changed
still_changed Fresh h = sym h
still_changed (MayPut d) h = sym h
still_changed (MayTake d) h = sym h
still_changed Begun h = sym h
still_changed Free h = sym h
still_changed Changed h = refl

-- the first entry of a body can't be weakened
pub begun_is : (process words : ℕ) (procedure : Option ℕ) (g : Entry) → IsWeaker (begins process procedure words) g
    → g ≡ begins process procedure words
begun_is process words procedure g h =
    let os : g.operands ≡ [] = no_operands g.operands h.operands
    in let m : g.mode ≡ Changed = still_changed g.mode h.mode
    in λ i. record {
      within = h.within i;
      operands = os i;
      words = h.words i;
      blocks = h.blocks i;
      loops = h.loops i;
      pieces = h.pieces i;
      mode = m i;
    }

pub begins_as : (o : Option Entry) (process start words : ℕ) → BeginsAs o process start words ↔ Has o (begins process (Some start) words)
begins_as None process start words = (λ h. h, λ h. h)
begins_as (Some g) process start words = (
  λ h. subst (IsWeaker (begins process (Some start) words)) (sym h) (itself (begins process (Some start) words)),
  λ h. begun_is process words (Some start) g h,
)
