-- `code` and `compile`: what is written of the program of a source.
use Rattle.std.proofs.Common.{ℕ, ◌≤◌, List, [], length, refl, sym, subst}
use Rattle.rb_base.specs.declared.limits.TheConstants.{MOST_BYTES}
use Rattle.rb_syntax.specs.Tree.{Tree}
use Rattle.rb_nest.specs.Groups.{alternates, memberships}
use Rattle.rb_code.specs.Instructions.Listing.{listing_text}
use Rattle.rb_code.specs.Instructions.Plain.{code}
use Rattle.rb_image.specs.Image.{image_of}
use Rattle.rb_prepare.specs.Prepared.{IsPrepared}
use Rattle.rb_prepare.specs.declared.preparing.Prepared.{Prepared}
use Rattle.rb_hall.specs.Judgement.{Judgement, Writes}
use Rattle.rb_verdict.specs.Judging.{CodeGoesOn, CompileGoesOn, JudgesSource, compiles, first_accepted, lists}
use Rattle.rb_verdict.proofs.InRanges.{code_in_ranges}
use Rattle.rb_commands.specs.Held.{HoldsCompiled}
use Rattle.rb_commands.specs.declared.source.Compiled.TheVariants as compiled
use Rattle.rb_commands.proofs.Loaded.{image_for, made_for}

module _ (prepared : Prepared) where
  program_writes : (goes_on : Tree → List (List ℕ) → Judgement → Type 0) (text : List ℕ)
      → ((source : List ℕ) (accepted : IsPrepared source prepared) → length source ≤ MOST_BYTES → goes_on accepted.tree [] (Writes text))
      → (texts : List (List ℕ)) → HoldsCompiled texts (compiled.Program prepared) → JudgesSource goes_on texts (Writes text)
  program_writes goes_on text writes texts (source, e, accepted, short) =
      subst (λ (ts : List (List ℕ)). JudgesSource goes_on ts (Writes text)) (sym e)
      (first_accepted source accepted.tree [] (Writes text) accepted.accepted (writes source accepted short))

  -- its code is listed
  pub code_lists : (texts : List (List ℕ)) → HoldsCompiled texts (compiled.Program prepared)
      → JudgesSource CodeGoesOn texts (Writes (listing_text (code prepared.code)))
  code_lists =
      program_writes CodeGoesOn (listing_text (code prepared.code))
      (λ source accepted short. lists (listing_text (code prepared.code))
      (record { listed = code prepared.code; made = made_for source prepared accepted; is = refl }))

  -- its image is written
  pub image_writes : (texts : List (List ℕ)) → HoldsCompiled texts (compiled.Program prepared)
      → JudgesSource CompileGoesOn texts (Writes (image_of (code prepared.code) (memberships prepared.nested) (alternates prepared.nested)))
  image_writes =
      let image = image_of (code prepared.code) (memberships prepared.nested) (alternates prepared.nested) in
      program_writes CompileGoesOn image
      (λ source accepted short. compiles image (record {
        compiled = code prepared.code;
        made = made_for source prepared accepted;
        is_image = record {
          spelled = image_for source prepared accepted;
          ranges = code_in_ranges source accepted.tree (code prepared.code) short accepted.accepted (made_for source prepared accepted);
        };
      }))
