-- What is told of what a process asked, where it asked nothing that lines tell more of.
use Rattle.std.proofs.Common.{◌≡◌, ℕ, [], ◌∷◌, Option, refl}
use Rattle.std.specs.Prelude.{codes}
use Rattle.rb_world.specs.Text.{Naming}
use Rattle.rb_picture.specs.Turns.{took_words, waiting_words}
use Rattle.rb_picture.specs.declared.asked.Asked.{Asked}
use Rattle.rb_picture.specs.declared.asked.Asked.TheVariants.{Nothing, Line, Room, Message, Maybe, Entry, Start, Step}

pub waits_bare : (names : Naming) (a : Asked) → ((d : Option ℕ) → a ≡ Line d → ⊥) → ((c : ℕ) → a ≡ Room c → ⊥)
    → ((c : ℕ) → a ≡ Message c → ⊥) → [] ≡ waiting_words names a
waits_bare names Nothing line room message = refl
waits_bare names (Line d) line room message = absurd (line d refl)
waits_bare names (Room c) line room message = absurd (room c refl)
waits_bare names (Message c) line room message = absurd (message c refl)
waits_bare names (Maybe c) line room message = refl
waits_bare names (Entry b) line room message = refl
waits_bare names (Start b a) line room message = refl
waits_bare names Step line room message = refl

pub takes_step : (names : Naming) (a : Asked) → ((b : ℕ) → a ≡ Entry b → ⊥) → ((b k : ℕ) → a ≡ Start b k → ⊥)
    → ((c : ℕ) → a ≡ Room c → ⊥) → ((c : ℕ) → a ≡ Message c → ⊥) → ((c : ℕ) → a ≡ Maybe c → ⊥)
    → codes "step" ∷ [] ≡ took_words names a
takes_step names Nothing entry start room message maybe = refl
takes_step names (Line d) entry start room message maybe = refl
takes_step names (Room c) entry start room message maybe = absurd (room c refl)
takes_step names (Message c) entry start room message maybe = absurd (message c refl)
takes_step names (Maybe c) entry start room message maybe = absurd (maybe c refl)
takes_step names (Entry b) entry start room message maybe = absurd (entry b refl)
takes_step names (Start b a) entry start room message maybe = absurd (start b a refl)
takes_step names Step entry start room message maybe = refl
