-- The alternate of a recovery block that is to be started, and is there.
use Rattle.std.proofs.Common.{◌≡◌, ℕ, zero, suc, ◌-◌, ◌<◌, List, map, length, refl, subst, arith}
use Rattle.std.specs.Prelude.{get_or, slice_get, Option, Some, None}
use Rattle.std.proofs.lemmas.List.{length-map}
use Rattle.std.proofs.lemmas.Option.{slice_get_read, slice_get_within}
use Rattle.rb_code.specs.Instructions.Plain.{Block, block}
use Rattle.rb_code.specs.WordMachine.Act.{alternate_address}
use Rattle.rb_code.specs.SoundCode.Safe.{IsThere}
use Rattle.rb_code.specs.declared.code.BlockCode.{BlockCode}

-- something that is there is among so many
among : (xs : List ℕ) (k : ℕ) (o : Option ℕ) → slice_get xs k ≡ o → IsThere o → k < length xs
among xs k None e h = absurd h
among xs k (Some x) e h = slice_get_within xs k x e

block_among : (blocks : List BlockCode) (b a : ℕ) (o : Option Block) → slice_get (map block blocks) b ≡ o → IsThere (alternate_address o a) → b < length blocks
block_among blocks b a None e h = absurd h
block_among blocks b a (Some one) e h = let within = slice_get_within (map block blocks) b one e in omega (arith, length-map blocks block)

pub has_block : (blocks : List BlockCode) (b a : ℕ) → IsThere (alternate_address (slice_get (map block blocks) b) a) → b < length blocks
has_block blocks b a h = block_among blocks b a (slice_get (map block blocks) b) refl h

pub is_counted : (one : Block) (a : ℕ) → IsThere (alternate_address (Some one) a) → 0 < a
is_counted one zero h = absurd h
is_counted one (suc k) h = omega arith

pub has_alternate : (one : Block) (a : ℕ) → IsThere (alternate_address (Some one) a) → a - 1 < length one.alternates
has_alternate one zero h = absurd h
has_alternate one (suc k) h = let within = among one.alternates k (slice_get one.alternates k) refl h in omega arith

pub address_is : (one : Block) (a to : ℕ) → IsThere (alternate_address (Some one) a) → to ≡ get_or one.alternates (a - 1) to
    → alternate_address (Some one) a ≡ Some to
address_is one zero to h e = absurd h
address_is one (suc k) to h e =
    slice_get_read one.alternates (length one.alternates) k to refl (among one.alternates k (slice_get one.alternates k) refl h)
    (subst (λ (n : ℕ). to ≡ get_or one.alternates n to) (let q : suc k - 1 ≡ k = omega arith in q) e)
