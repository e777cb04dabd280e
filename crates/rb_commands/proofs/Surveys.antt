-- A program that was loaded, has taken the turns of a schedule and was surveyed: what is written of it is how its code stands.
use Rattle.std.proofs.Common.{◌≡◌, ◌≤◌, ℕ, ◌+◌, false, List, [], length, replicate, refl, sym, ap, ◌∙◌, arith}
use Rattle.std.proofs.lemmas.List.{length-map}
use Rattle.rb_base.specs.Limits.{most_processes}
use Rattle.rb_base.specs.declared.edition.Edition.{Edition}
use Rattle.rb_base.specs.declared.edition.Edition.TheVariants.{First, Second}
use Rattle.rb_base.specs.declared.limits.TheConstants.{MOST_PROCESSES_SECOND}
use Rattle.rb_trace.specs.Naming.{naming}
use Rattle.rb_world.specs.Kind.{Membership}
use Rattle.rb_world.proofs.Keeping.StandingFacts.{run-size}
use Rattle.rb_code.specs.Instructions.Plain.{Code, code}
use Rattle.rb_code.specs.WordMachine.WordKind.{word_kind}
use Rattle.rb_code.specs.WordMachine.WordRun.{WordWorld, opening_of, opening_standings, word_run}
use Rattle.rb_conv.specs.Conversations.{memberships, opening}
use Rattle.rb_machine.specs.Machine.{Seen, opening_seen}
use Rattle.rb_machine.proofs.Knowing.Sizes.{length-opening}
use Rattle.rb_prepare.specs.Prepared.{IsPrepared}
use Rattle.rb_prepare.specs.declared.preparing.Prepared.{Prepared}
use Rattle.rb_run.specs.Running.{ran}
use Rattle.rb_run.proofs.RunWritten.{names_each}
use Rattle.rb_stuck.specs.Programs.{word_standing_text}
use Rattle.rb_stuck.specs.Stuck.{standing, text_of}
use Rattle.rb_stuck.specs.Survey.{StandsAfter}
use Rattle.rb_stuck.specs.declared.standing.Standing.{Standing}
use Rattle.rb_stuck.specs.declared.standing.Standing.TheVariants.{Stuck}
use Rattle.rb_stuck.proofs.Still.Stays.{as_many}
use Rattle.rb_stuck.proofs.Told.{text_stands}
use Rattle.rb_commands.proofs.Loaded.{code_names_fit, is_sound}

most_of_both : (edition : Edition) → most_processes edition ≤ MOST_PROCESSES_SECOND
most_of_both First = omega arith
most_of_both Second = omega arith

module _ (source : List ℕ) (prepared : Prepared) (accepted : IsPrepared source prepared) where
  abbrev its_code : Code
  its_code = code prepared.code

  abbrev groups : List Membership
  groups = memberships (opening prepared.nested)

  module _ (most : ℕ) where
    abbrev loaded : Seen
    loaded = opening_seen its_code groups false most

    each_named : length prepared.code.names.processes.items ≡ length loaded.world.processes
    each_named = names_each loaded false refl prepared.code.names (code_names_fit source prepared accepted)

    each_coded : length loaded.world.processes ≡ length its_code.processes
    each_coded = length-map (opening_standings 0 its_code.processes) _ ∙ length-opening 0 its_code.processes

    pub few_processes : length prepared.code.names.processes.items ≤ MOST_PROCESSES_SECOND
    few_processes =
        omega (arith, each_named, each_coded, (is_sound source prepared accepted).well.few_processes, most_of_both its_code.edition)

    module _ (turns : List ℕ) (later : Seen) (led : later ≡ ran loaded turns) where
      pub taken_later : later.taken ≡ length turns
      taken_later = omega (arith, ap (λ (m : Seen). m.taken) led)

      each_later : length later.world.processes ≡ length loaded.world.processes
      each_later =
          ap (λ (m : Seen). length m.world.processes) led ∙ (run-size (word_kind its_code groups) 1 turns (opening_of its_code groups)).of_processes

      pub named_later : length prepared.code.names.processes.items ≡ length later.world.processes
      named_later = each_named ∙ sym each_later

      pub waits_later : later.waiting ≡ replicate (length later.world.processes) []
      waits_later =
          ap (λ (m : Seen). m.waiting) led ∙ ap (λ n. replicate n []) (sym (each_later ∙ each_coded))

      abbrev last : WordWorld
      last = (word_run its_code groups turns).0

      module _ (after : Seen) (found : Standing) (is : found ≡ standing (word_kind later.code later.groups) (later.taken + 1) later.world)
          (stood : StandsAfter found later after) where
        pub named_after : found ≡ Stuck → length prepared.code.names.processes.items ≡ length after.world.processes
        named_after stuck = named_later ∙ sym (of_stuck found stood stuck)
          where
            of_stuck : (s : Standing) → StandsAfter s later after → s ≡ Stuck → length after.world.processes ≡ length later.world.processes
            of_stuck Stuck here e = as_many after.world later.world here.world
            of_stuck s here e = absurd (cc)

        pub text_after : text_of (word_kind after.code after.groups) (naming prepared.code.names) after.world.processes found
            ≡ word_standing_text its_code groups turns
        text_after =
            text_stands later after (naming prepared.code.names) found stood
            ∙ ap (text_of (word_kind later.code later.groups) (naming prepared.code.names) later.world.processes) is
            ∙ ap (λ (m : Seen). text_of (word_kind m.code m.groups) (naming prepared.code.names) m.world.processes
            (standing (word_kind m.code m.groups) (m.taken + 1) m.world)) led
            ∙ ap (λ n. text_of (word_kind its_code groups) its_code.names last.processes (standing (word_kind its_code groups) (n + 1) last))
            {x = 0 + length turns} {y = length turns} (omega arith)
