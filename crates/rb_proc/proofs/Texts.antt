-- A text of the code, or a number, joins the line.
use Rattle.std.proofs.Common.{◌≡◌, ℕ, zero, suc, ◌+◌, ◌<◌, ℤ, List, [], ◌∷◌, ◌++◌, map, length, refl, ap, sym, ◌∙◌, arith}
use Rattle.std.specs.Prelude.{slice_get}
use Rattle.std.specs.Fmt.{signed_decimal}
use Rattle.std.specs.Option.{unwrap_or}
use Rattle.std.proofs.lemmas.List.{map-append}
use Rattle.rb_world.specs.Slots.{Slots}
use Rattle.rb_code.specs.WordMachine.Act.{Going, Outcome, if_there, on_top}
use Rattle.rb_operands.specs.LineSeen.{LineSeen}
use Rattle.rb_operands.specs.Pieces.{piece_text}
use Rattle.rb_operands.specs.declared.bench.Bench.{Bench}
use Rattle.rb_operands.specs.declared.line.Piece.TheVariants.{Number, Text}
use Rattle.rb_recoverable.specs.Contents.{Contents}
use Rattle.rb_proc.specs.Outcomes.{mem}

-- a text joins the line
there_is : (texts : List (List ℕ)) (k : ℕ) (go : List ℕ → Outcome) → k < length texts
    → if_there (slice_get texts k) go ≡ go (unwrap_or (slice_get texts k) [])
there_is [] k go h = absurd (omega arith)
there_is (text ∷ texts) zero go h = refl
there_is (text ∷ texts) (suc k) go h = there_is texts k go (omega arith)

pub text_comes : (texts : List (List ℕ)) (bench : Bench) (operands : List ℤ) (r : Contents) (slots : Slots) (at k : ℕ) (after : LineSeen)
    → after ≡ record { pieces = bench.line.pieces ++ Text k ∷ []; bytes = bench.line.bytes } → k < length texts
    → Going (at + 1) operands (mem r (map (piece_text texts) after.pieces) bench.counters slots)
    ≡ if_there (slice_get texts k)
    (λ text. Going (at + 1) operands (mem r (map (piece_text texts) bench.line.pieces ++ text ∷ []) bench.counters slots))
text_comes texts bench operands r slots at k after e h =
    ap (λ (l : LineSeen). Going (at + 1) operands (mem r (map (piece_text texts) l.pieces) bench.counters slots)) e
    ∙ ap (λ (ps : List (List ℕ)). Going (at + 1) operands (mem r ps bench.counters slots))
    (map-append (piece_text texts) bench.line.pieces (Text k ∷ []))
    ∙ sym (there_is texts k
    (λ text. Going (at + 1) operands (mem r (map (piece_text texts) bench.line.pieces ++ text ∷ []) bench.counters slots)) h)

-- a number, which lay on top, joins the line
pub item_comes : (texts : List (List ℕ)) (bench : Bench) (operands rest : List ℤ) (r : Contents) (slots : Slots) (at : ℕ) (x : ℤ) (after : LineSeen)
    → after ≡ record { pieces = bench.line.pieces ++ Number x ∷ []; bytes = bench.line.bytes } → operands ≡ x ∷ rest
    → Going (at + 1) rest (mem r (map (piece_text texts) after.pieces) bench.counters slots)
    ≡ on_top operands
    (λ y others. Going (at + 1) others (mem r (map (piece_text texts) bench.line.pieces ++ signed_decimal y ∷ []) bench.counters slots))
item_comes texts bench operands rest r slots at x after e popped =
    ap (λ (l : LineSeen). Going (at + 1) rest (mem r (map (piece_text texts) l.pieces) bench.counters slots)) e
    ∙ ap (λ (ps : List (List ℕ)). Going (at + 1) rest (mem r ps bench.counters slots))
    (map-append (piece_text texts) bench.line.pieces (Number x ∷ []))
    ∙ sym (ap (λ (xs : List ℤ). on_top xs
    (λ y others. Going (at + 1) others (mem r (map (piece_text texts) bench.line.pieces ++ signed_decimal y ∷ []) bench.counters slots))) popped)
