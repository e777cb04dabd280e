-- A program with one command more.
use Rattle.std.proofs.Common.{◌≡◌, ◌∙◌, List, [], ◌∷◌, ◌++◌, ℕ, map, ◌<◌, ◌+◌, length, take, slice_index_or, sym, ap}
use Rattle.std.specs.List.{fold}
use Rattle.std.proofs.lemmas.List.{map-append, take_more}
use Rattle.std.proofs.lemmas.Grind.{fold-append}
use Rattle.clap.specs.Simple.{App, with_subcommand}
use Rattle.rb_asking.specs.Guides.{guide_of}
use Rattle.rb_asking.specs.Program.{shape_of}
use Rattle.rb_asking.specs.declared.guides.Guide.{Guide}

pub command_joined : (program : App) (commands : List Guide) (i : ℕ) (d : Guide)
    → i < length commands → (new old : App) → old ≡ fold with_subcommand program (map shape_of (map guide_of (take i commands)))
    → new ≡ with_subcommand old (shape_of (guide_of (slice_index_or commands i d)))
    → new ≡ fold with_subcommand program (map shape_of (map guide_of (take (i + 1) commands)))
command_joined program commands i d lt new old before is =
    let one = slice_index_or commands i d in
    let more : fold with_subcommand program (map shape_of (map guide_of (take i commands ++ one ∷ [])))
    ≡ with_subcommand (fold with_subcommand program (map shape_of (map guide_of (take i commands)))) (shape_of (guide_of one)) =
    simp (map-append, fold-append) in
    is ∙ ap (λ (app : App). with_subcommand app (shape_of (guide_of one))) before ∙ sym more
    ∙ sym (ap (λ xs. fold with_subcommand program (map shape_of (map guide_of xs))) (take_more commands i d lt))
