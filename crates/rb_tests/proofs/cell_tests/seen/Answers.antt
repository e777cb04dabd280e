use Rattle.std.proofs.Common.{◌≡◌, ℕ, ◌+◌, ℤ, pos, ◌++◌, length, slice_set, replicate, ap, ◌∙◌, length-append, length-set, length-take, arith}
use Rattle.std.proofs.lemmas.List.{length-replicate}
use Rattle.rb_cell.specs.Store.{Store}
use Rattle.rb_tests.proofs.cell_tests.seen.Goals as goal

-- how many words there are once zeros were pushed
filled : (old new : Store) (n : ℕ) → new ≡ record { words = old.words ++ replicate n (pos 0); limit = old.limit }
    → length new.words ≡ length old.words + n
filled old new n is =
    ap (λ (store : Store). length store.words) is ∙ length-append old.words (replicate n (pos 0))
    ∙ ap (λ (more : ℕ). length old.words + more) (length-replicate n (pos 0))

-- as many words as before
written : (old new : Store) (at : ℕ) (value : ℤ) → new ≡ record { words = slice_set old.words at value; limit = old.limit }
    → length new.words ≡ length old.words
written old new at value is = ap (λ (store : Store). length store.words) is ∙ length-set old.words at value

pub write-requires : goal.write-requires
write-requires g c = omega (arith, filled _ _ _ c.push_zeros.ensures.words, c.requires.some)

pub read-written-requires : goal.read-written-requires
read-written-requires g c =
    omega (arith, filled _ _ _ c.push_zeros.ensures.words, written _ _ _ _ c.write.ensures.words, c.requires.some)

pub drop_to-requires : goal.drop_to-requires
drop_to-requires g c =
    omega (arith, filled _ _ _ c.push_zeros.ensures.words, written _ _ _ _ c.write.ensures.words, c.requires.some)

pub push_zeros-requires-2 : goal.push_zeros-requires-2
push_zeros-requires-2 g c =
    omega (
      arith,
      ap (λ (store : Store). length store.words) c.drop_to.ensures,
      length-take 1 c.write.new.self.words,
      ap (λ (store : Store). store.limit) c.drop_to.ensures,
      ap (λ (store : Store). store.limit) c.write.ensures.words,
      ap (λ (store : Store). store.limit) c.push_zeros.ensures.words,
      c.requires.limit,
      c.requires.some,
    )

pub read-requires : goal.read-requires
read-requires g c =
    omega (
      arith,
      filled _ _ _ c.push_zeros-2.ensures.words,
      ap (λ (store : Store). length store.words) c.drop_to.ensures,
      length-take 1 c.write.new.self.words,
      written _ _ _ _ c.write.ensures.words,
      filled _ _ _ c.push_zeros.ensures.words,
      c.requires.some,
    )
