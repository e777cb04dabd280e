-- The next line of one process is lent, and all else stays.
use Rattle.std.proofs.Common.{◌≡◌, ◌<◌, ℕ, List, [], length, get_or, set, drop, option_map, slice_get, unwrap_or, Option, refl, ap, sym, ◌∙◌}
use Rattle.std.specs.Vec.{with_item}
use Rattle.std.proofs.lemmas.List.{map-set, set-get_or}
use Rattle.std.proofs.lemmas.Option.{slice_get-map}
use Rattle.rb_base.specs.Lines.{belonging, next_line, without_next}
use Rattle.rb_world.specs.World.{Process}
use Rattle.rb_scope.proofs.Long.{got}
use Rattle.rb_code.specs.WordMachine.Turn.{Copy, Standing}
use Rattle.rb_proc.specs.Process.{Seen}
use Rattle.rb_recovery.specs.Reading.{HasLent}
use Rattle.rb_recovery.specs.Worlds.{lines_of, processes_of}
use Rattle.rb_recovery.specs.declared.parts.Parts.{Parts}

module _ (procs : List Seen) (p : ℕ) (one after : Seen) (within : p < length procs) (read : one ≡ get_or procs p one)
    (is : after ≡ record one { waiting = drop 1 one.waiting }) where
  own : belonging (lines_of procs) p ≡ one.waiting
  own =
      ap (λ (o : Option (List (List ℕ))). unwrap_or o [])
      (slice_get-map (λ (one : Seen). one.waiting) procs p ∙ ap (option_map (λ (one : Seen). one.waiting)) (got procs p one within read))

  pub line_lent : (line : Option (List ℕ)) → line ≡ slice_get one.waiting 0 → line ≡ next_line (lines_of procs) p
  line_lent line e = e ∙ ap (λ (lines : List (List ℕ)). slice_get lines 0) (sym own)

  pub others_wait : lines_of (set procs p after) ≡ without_next (lines_of procs) p
  others_wait =
      map-set (λ (one : Seen). one.waiting) procs p after
      ∙ ap (λ (lines : List (List ℕ)). set (lines_of procs) p lines) (ap (λ (one : Seen). one.waiting) is ∙ ap (drop 1) (sym own))

  pub processes_stay : processes_of (set procs p after) ≡ processes_of procs
  processes_stay =
      map-set (λ (one : Seen). one.process) procs p after
      ∙ ap (λ (q : Process Standing Copy). set (processes_of procs) p q) (ap (λ (one : Seen). one.process) is)
      ∙ sym (map-set (λ (one : Seen). one.process) procs p one)
      ∙ ap (λ (one : Seen). processes_of (set procs p one)) read
      ∙ ap processes_of (set-get_or procs p one)

-- so a process that has got its next line, and is written in its place, leaves what is asked
pub has_lent : {L : Type 0} (old : Parts L) (p : ℕ) (one after : Seen) → p < length old.procs.items → one ≡ get_or old.procs.items p one
    → after ≡ record one { waiting = drop 1 one.waiting } → HasLent p old (record old { procs = with_item old.procs p after })
has_lent old p one after within read is = record {
  lines = others_wait old.procs.items p one after within read is;
  processes = processes_stay old.procs.items p one after within read is;
  mails = refl;
  table = refl;
  links = refl;
}
