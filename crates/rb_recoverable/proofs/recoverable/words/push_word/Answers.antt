use Rattle.std.proofs.Common.{ℕ, ℤ, List, [], ◌∷◌, ◌++◌, length, pos, w64, ap, ◌∙◌, arith, rules}
use Rattle.std.specs.Prelude.{slice_set, replicate}
use Rattle.std.proofs.Math.Seq.{set-append_seam}
use Rattle.std.proofs.lemmas.List.{length-append}
use Rattle.std.proofs.lemmas.Int.{to_z-of_z}
use Rattle.rb_cell.specs.Store.{Store}
use Rattle.rb_recoverable.proofs.recoverable.words.push_word.Goals as goal

pub returns-clause-words : goal.returns-clause-words
returns-clause-words g c =
    let ws = c.args.cells.now.words in
    c.write.ensures.words
    ∙ ap
    (λ (v : ℤ). record { words = slice_set c.push_zeros.new.self.words c.height-at.result v; limit = c.push_zeros.new.self.limit })
    (to_z-of_z w64 c.args.word (search rules))
    ∙ ap (λ (s : Store). record { words = slice_set s.words c.height-at.result c.args.word; limit = s.limit }) c.push_zeros.ensures.words
    ∙ ap (λ (k : ℕ). record { words = slice_set (ws ++ replicate 1 (pos 0)) k c.args.word; limit = c.args.cells.now.limit }) c.height-at.ensures.words
    ∙ ap (λ (w : List ℤ). record { words = w; limit = c.args.cells.now.limit }) (set-append_seam ws (pos 0) [] c.args.word)

pub write-requires : goal.write-requires
write-requires g c =
    omega (
      arith,
      c.height-at.ensures.words,
      ap (λ (s : Store). length s.words) c.push_zeros.ensures.words,
      length-append c.args.cells.now.words (pos 0 ∷ []),
    )
