-- Levels by their marks, and the copies of them.
use Rattle.std.proofs.Common.{◌≡◌, ℕ, zero, suc, ◌-◌, ◌<◌, ◌≤◌, ℤ, pos, List, [], ◌∷◌, ◌++◌, map, length, take, refl, ap, sym, ◌∙◌, subst, arith}
use Rattle.std.specs.Prelude.{get_or}
use Rattle.std.proofs.lemmas.List.{take-append-le, take-take}
use Rattle.std.proofs.lemmas.Option.{unwrap_or-slice_get}
use Rattle.rb_world.specs.World.{Level, copy_of, last_of, without_last}
use Rattle.rb_world.specs.Turn.{tried_at}
use Rattle.rb_cache.specs.Copies.{last_or}
use Rattle.rb_code.specs.WordMachine.Workspace.{word_at}
use Rattle.rb_code.specs.WordMachine.Turn.{Copy, prior_words}
use Rattle.rb_recoverable.specs.declared.recoverable.LevelMark.{LevelMark}
use Rattle.rb_recoverable.specs.declared.recoverable.OpenCall.{OpenCall as Held}
use Rattle.rb_recoverable.specs.Inside.{Rise, calls_at, calls_of, level_of, levels_of}
use Rattle.rb_recoverable.proofs.Rising.{rise_first}

-- a word that is there
pub word_is : (words : List ℤ) (at : ℕ) → get_or words at (pos 0) ≡ word_at words at
word_is words at = sym (unwrap_or-slice_get words at (pos 0))

-- more calls change no level
pub levels_more : (clock : ℕ) (marks : List LevelMark) (copied : List (List ℤ)) (calls more : List Held) → Rise (map calls_at marks) (length calls)
    → levels_of clock marks copied (calls ++ more) ≡ levels_of clock marks copied calls
levels_more clock [] copied calls more h = refl
levels_more clock (mark ∷ marks) [] calls more h = refl
levels_more clock (mark ∷ marks) (words ∷ copied) calls more h =
    let below = rise_first (map calls_at marks) (length calls) h.1 in
    let first = h.0 in
    let same = take-append-le mark.calls calls more (omega arith) in
    ap (λ (cs : List Held). record
    (level_of clock mark words calls) { copy = record { at = mark.at; words = words; calls = calls_of cs; last_kept = mark.last_kept } }
    ∷ levels_of clock marks copied (calls ++ more)) same
    ∙ ap (λ (ls : List (Level Copy)). level_of clock mark words calls ∷ ls) (levels_more clock marks copied calls more h.1)

-- nor do fewer, but as many as at each entry
pub levels_fewer : (clock : ℕ) (marks : List LevelMark) (copied : List (List ℤ)) (calls : List Held) (k : ℕ) → Rise (map calls_at marks) k
    → levels_of clock marks copied (take k calls) ≡ levels_of clock marks copied calls
levels_fewer clock [] copied calls k h = refl
levels_fewer clock (mark ∷ marks) [] calls k h = refl
levels_fewer clock (mark ∷ marks) (words ∷ copied) calls k h =
    let below = rise_first (map calls_at marks) k h.1 in
    let first = h.0 in
    let same = take-take mark.calls k calls (omega arith) in
    ap (λ (cs : List Held). record
    (level_of clock mark words calls) { copy = record { at = mark.at; words = words; calls = calls_of cs; last_kept = mark.last_kept } }
    ∷ levels_of clock marks copied (take k calls)) same
    ∙ ap (λ (ls : List (Level Copy)). level_of clock mark words calls ∷ ls) (levels_fewer clock marks copied calls k h.1)

-- one level more
pub levels_push : (clock : ℕ) (marks : List LevelMark) (copied : List (List ℤ)) (calls : List Held) (mark : LevelMark) (words : List ℤ)
    → length marks ≡ length copied
    → levels_of clock (marks ++ mark ∷ []) (copied ++ words ∷ []) calls ≡ levels_of clock marks copied calls ++ level_of clock mark words calls ∷ []
levels_push clock [] [] calls mark words e = refl
levels_push clock [] (ws ∷ copied) calls mark words e = absurd (omega arith)
levels_push clock (m ∷ marks) [] calls mark words e = absurd (omega arith)
levels_push clock (m ∷ marks) (ws ∷ copied) calls mark words e =
    ap (λ (ls : List (Level Copy)). level_of clock m ws calls ∷ ls) (levels_push clock marks copied calls mark words (omega arith))

-- the first levels alone
pub levels_take : (clock : ℕ) (k : ℕ) (marks : List LevelMark) (copied : List (List ℤ)) (calls : List Held)
    → levels_of clock (take k marks) (take k copied) calls ≡ take k (levels_of clock marks copied calls)
levels_take clock zero marks copied calls = refl
levels_take clock (suc k) [] copied calls = refl
levels_take clock (suc k) (mark ∷ marks) [] calls = refl
levels_take clock (suc k) (mark ∷ marks) (words ∷ copied) calls =
    ap (λ (ls : List (Level Copy)). level_of clock mark words calls ∷ ls) (levels_take clock k marks copied calls)

pub levels_long : (clock : ℕ) (marks : List LevelMark) (copied : List (List ℤ)) (calls : List Held) → length marks ≡ length copied
    → length (levels_of clock marks copied calls) ≡ length marks
levels_long clock [] copied calls e = refl
levels_long clock (mark ∷ marks) [] calls e = absurd (omega arith)
levels_long clock (mark ∷ marks) (words ∷ copied) calls e = ap suc (levels_long clock marks copied calls (omega arith))

-- all but the last
pub without_last_is : {A : Type 0} (xs : List A) → take (length xs - 1) xs ≡ without_last xs
without_last_is [] = refl
without_last_is (x ∷ []) = refl
without_last_is {A} (x ∷ y ∷ ys) =
    let e : length (x ∷ y ∷ ys) - 1 ≡ suc (length (y ∷ ys) - 1) = omega arith in
    ap (λ k. take k (x ∷ y ∷ ys)) e ∙ ap (λ (zs : List A). x ∷ zs) (without_last_is (y ∷ ys))

-- the last copy is the one that `prior` reads
pub last_is : (clock : ℕ) (marks : List LevelMark) (copied : List (List ℤ)) (calls : List Held) → length marks ≡ length copied
    → prior_words (copy_of (last_of (levels_of clock marks copied calls))) ≡ last_or copied []
last_is clock [] [] calls e = refl
last_is clock [] (ws ∷ copied) calls e = absurd (omega arith)
last_is clock (m ∷ marks) [] calls e = absurd (omega arith)
last_is clock (m ∷ []) (ws ∷ []) calls e = refl
last_is clock (m ∷ []) (ws ∷ vs ∷ copied) calls e = absurd (omega arith)
last_is clock (m ∷ n ∷ marks) (ws ∷ []) calls e = absurd (omega arith)
last_is clock (m ∷ n ∷ marks) (ws ∷ vs ∷ copied) calls e =
    let k : length (ws ∷ vs ∷ copied) - 1 ≡ suc (length (vs ∷ copied) - 1) = omega arith in
    last_is clock (n ∷ marks) (vs ∷ copied) calls (omega arith) ∙ sym (ap (λ i. get_or (ws ∷ vs ∷ copied) i []) k)

pub last_or-low : (copied : List (List ℤ)) (n : ℕ) → Rise (map length copied) n → length (last_or copied []) ≤ n
last_or-low [] n h = omega arith
last_or-low (ws ∷ []) n h = h.0
last_or-low (ws ∷ vs ∷ copied) n h =
    let k : length (ws ∷ vs ∷ copied) - 1 ≡ suc (length (vs ∷ copied) - 1) = omega arith in
    subst (λ i. length (get_or (ws ∷ vs ∷ copied) i []) ≤ n) (sym k) (last_or-low (vs ∷ copied) n h.1)

-- the alternate of the innermost level
pub last_tried : (clock : ℕ) (marks : List LevelMark) (copied : List (List ℤ)) (calls : List Held) (m : LevelMark)
    → length marks ≡ length copied → 0 < length marks
    → (get_or marks (length marks - 1) m).alternate ≡ tried_at (last_of (levels_of clock marks copied calls))
last_tried clock [] copied calls m e h = absurd (omega arith)
last_tried clock (n ∷ marks) [] calls m e h = absurd (omega arith)
last_tried clock (n ∷ []) (ws ∷ []) calls m e h = refl
last_tried clock (n ∷ []) (ws ∷ vs ∷ copied) calls m e h = absurd (omega arith)
last_tried clock (n ∷ o ∷ marks) (ws ∷ []) calls m e h = absurd (omega arith)
last_tried clock (n ∷ o ∷ marks) (ws ∷ vs ∷ copied) calls m e h =
    let k : length (n ∷ o ∷ marks) - 1 ≡ suc (length (o ∷ marks) - 1) = omega arith in
    ap (λ i. (get_or (n ∷ o ∷ marks) i m).alternate) k ∙ last_tried clock (o ∷ marks) (vs ∷ copied) calls m (omega arith) (omega arith)

pub none_tried : (clock : ℕ) (marks : List LevelMark) (copied : List (List ℤ)) (calls : List Held) → length marks ≡ 0
    → 0 ≡ tried_at (last_of (levels_of clock marks copied calls))
none_tried clock [] copied calls e = refl
none_tried clock (m ∷ marks) copied calls e = absurd (omega arith)
