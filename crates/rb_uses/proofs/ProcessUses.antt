-- The uses of one process more.
use Rattle.std.proofs.Common.{◌≡◌, ℕ, ◌+◌, ◌<◌, false, List, [], ◌∷◌, ◌++◌, length, get_or, drop, map, sym, ap, ◌∙◌, add-one}
use Rattle.std.proofs.Math.Seq.{drop-cons}
use Rattle.std.proofs.lemmas.List.{append-nil, append_assoc, map-append}
use Rattle.rb_syntax.specs.declared.program.Process.{Process}
use Rattle.rb_syntax.specs.Tree.{Tree}
use Rattle.rb_syntax.specs.Plain.{process_declaration}
use Rattle.rb_meaning.specs.Nesting.{outside, uses_in, uses_in_procedures, uses_in_processes}
use Rattle.rb_uses.specs.Summary.{Summary, summary}

-- what is told of processes from this number on
abbrev told : Tree → ℕ → List Process → List Summary
told tree number processes = map (summary tree) (uses_in_processes number (map process_declaration processes))

first_told : (tree : Tree) (number : ℕ) (p : Process) (others : List Process)
    → told tree number (p ∷ []) ++ told tree (number + 1) others ≡ told tree number (p ∷ others)
first_told tree number p others =
    let in_procedures = uses_in_procedures number (process_declaration p).procedures in
    let own = uses_in (outside number false) (process_declaration p).commands in
    let rest = uses_in_processes (number + 1) (map process_declaration others) in
    sym (map-append (summary tree) (in_procedures ++ (own ++ [])) rest)
    ∙ ap (λ us. map (summary tree) ((in_procedures ++ us) ++ rest)) (append-nil own)
    ∙ ap (map (summary tree)) (append_assoc in_procedures own rest)

-- those so far and what is told of the rest stay what they were
pub process_more : (tree : Tree) (before after whole : List Summary) (processes : List Process) (number : ℕ) (p : Process)
    → p ≡ get_or processes number p → number < length processes → after ≡ before ++ told tree number (p ∷ [])
    → before ++ told tree number (drop number processes) ≡ whole → after ++ told tree (number + 1) (drop (number + 1) processes) ≡ whole
process_more tree before after whole processes number p e h a w =
    let others = drop (number + 1) processes in
    ap (λ us. us ++ told tree (number + 1) others) a
    ∙ append_assoc before (told tree number (p ∷ [])) (told tree (number + 1) others)
    ∙ ap (λ us. before ++ us) (first_told tree number p others)
    ∙ ap (λ q. before ++ told tree number (q ∷ others)) e
    ∙ ap (λ ps. before ++ told tree number (get_or processes number p ∷ ps)) (ap (λ n. drop n processes) (add-one number))
    ∙ ap (λ ps. before ++ told tree number ps) (sym (drop-cons processes number p h))
    ∙ w
