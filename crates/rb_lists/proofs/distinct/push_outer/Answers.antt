use Rattle.std.proofs.Common.{◌++◌, List, ℕ, map, ap, ap₂, sym, ◌∙◌, Bor, append_assoc}
use Rattle.std.proofs.lemmas.List.{map-id}
use Rattle.std.proofs.lemmas.Result.{on_ok_weaker}
use Rattle.std.proofs.lemmas.Simd.{map-map}
use Rattle.rb_base.specs.declared.names.ProcessNames.{ProcessNames}
use Rattle.rb_world.specs.Text.{ProcessNaming}
use Rattle.rb_trace.specs.Naming.{naming, process_naming}
use Rattle.rb_lists.proofs.distinct.push_outer.Goals as goal

pub returns : goal.returns
returns c =
    let joined : List (List ℕ) → List (List ℕ) → List (List ℕ) = λ front back. front ++ back in
    let before : List (List ℕ) = map (λ (name : Bor (List ℕ)). name.now) c.args.outer.now.items in
    let named = naming c.args.names.now in
    let first : List (List ℕ) = map (λ (process : ProcessNaming). process.name) named.processes in
    let processes =
    ap (map (λ (process : ProcessNames). process.name)) c.deref.ensures.value
    ∙ sym (map-map (λ (process : ProcessNaming). process.name) process_naming c.args.names.now.processes.items) in
    let channels = map-id c.deref-2.result.now ∙ c.deref-2.ensures.value in
    let conversations = map-id c.deref-3.result.now ∙ c.deref-3.ensures.value in
    on_ok_weaker c.push_names-3.result
    (λ last.
    last
    ∙ ap₂ joined (c.in_ok-push_names-2.ensures ∙ ap₂ joined (c.in_ok-push_names.ensures ∙ ap (joined before) processes) channels) conversations
    ∙ ap (λ (front : List (List ℕ)). front ++ named.conversations) (append_assoc before first named.channels)
    ∙ append_assoc before (first ++ named.channels) named.conversations)
    c.push_names-3.ensures
