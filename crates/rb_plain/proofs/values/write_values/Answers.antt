use Rattle.std.proofs.Common.{◌≡◌, ◌++◌, ℤ, List, Ok, Err, map, ap, sym, subst}
use Rattle.rb_syntax.specs.Plain.{tree}
use Rattle.rb_outside.proofs.Puts.{puts_same}
use Rattle.rb_trace.specs.Naming.{naming, process_naming}
use Rattle.rb_world.specs.Text.{channel_lines, value_lines, values_text}
use Rattle.rb_meaning.specs.Groups.{channels_of}
use Rattle.rb_meaning.specs.Meaning.{count_sent, count_taken, final_of, states_of}
use Rattle.rb_levels.specs.declared.answer.PlainAnswer.TheVariants.{WriteFault}
use Rattle.rb_plain.specs.Played.{ProcessesLie, words_of_all}
use Rattle.rb_levels.specs.Worlds.{world_of}
use Rattle.rb_plain.proofs.Endings.{words_same}
use Rattle.rb_plain.proofs.Writing.{puts_failed, puts_well, writes_answered, writes_both, writes_same, writes_stopped}
use Rattle.rb_plain.proofs.values.write_values.Goals as goal

pub write_all_variables-requires : goal.write_all_variables-requires
write_all_variables-requires g c =
    subst (ProcessesLie c.args.names.now.processes.items) (words_same (tree c.args.program.now) c.args.processes.now) c.requires.lie

pub returns-in_err-write_all_variables : goal.returns-in_err-write_all_variables
returns-in_err-write_all_variables g c =
    let program = tree c.args.program.now in
    let names = c.args.names.now in
    let states = states_of (world_of program c.args.processes.now) in
    let channels = channels_of program in
    let variables = map process_naming names.processes.items in
    let words = value_lines variables (words_of_all c.args.processes.now) in
    let counts = channel_lines names.channels.items (count_sent states 0 channels) (count_taken states 0 channels) in
    let same : words ++ counts ≡ values_text (naming names) (final_of program (world_of program c.args.processes.now)) =
    ap (λ (ws : List (List ℤ)). value_lines variables ws ++ counts) (sym (words_same program c.args.processes.now)) in
    let answer = c.in_err-write_all_variables.field-0.0 in
    writes_answered _ _ _ _ _ answer c.from_residual.result c.from_residual.ensures.1
    (writes_same (words ++ counts) _ _ _ _ _ (Err answer) same (writes_stopped words counts _ _ _ _ answer c.in_err-write_all_variables.ensures))

pub returns-in_err-write_channels : goal.returns-in_err-write_channels
returns-in_err-write_channels g c =
    let program = tree c.args.program.now in
    let names = c.args.names.now in
    let states = states_of (world_of program c.args.processes.now) in
    let channels = channels_of program in
    let variables = map process_naming names.processes.items in
    let words = value_lines variables (words_of_all c.args.processes.now) in
    let counts = channel_lines names.channels.items (count_sent states 0 channels) (count_taken states 0 channels) in
    let same : words ++ counts ≡ values_text (naming names) (final_of program (world_of program c.args.processes.now)) =
    ap (λ (ws : List (List ℤ)). value_lines variables ws ++ counts) (sym (words_same program c.args.processes.now)) in
    writes_answered _ _ _ _ _ WriteFault c.from_residual-in_err-write_channels.result c.from_residual-in_err-write_channels.ensures.1
    (puts_same (words ++ counts) _ _ _ _ _ (Err WriteFault) same
    (writes_both words counts _ _ _ _ _ _ (Err WriteFault) c.in_ok-write_all_variables.ensures
    (puts_failed counts _ _ _ _ _ c.in_err-write_channels.ensures)))

pub returns : goal.returns
returns g c =
    let program = tree c.args.program.now in
    let names = c.args.names.now in
    let states = states_of (world_of program c.args.processes.now) in
    let channels = channels_of program in
    let variables = map process_naming names.processes.items in
    let words = value_lines variables (words_of_all c.args.processes.now) in
    let counts = channel_lines names.channels.items (count_sent states 0 channels) (count_taken states 0 channels) in
    let same : words ++ counts ≡ values_text (naming names) (final_of program (world_of program c.args.processes.now)) =
    ap (λ (ws : List (List ℤ)). value_lines variables ws ++ counts) (sym (words_same program c.args.processes.now)) in
    puts_same (words ++ counts) _ _ _ _ _ (Ok tt) same
    (writes_both words counts _ _ _ _ _ _ (Ok tt) c.in_ok-write_all_variables.ensures (puts_well counts _ _ _ _ tt c.in_ok-write_channels.ensures))
