use Rattle.std.proofs.Common.{[], ◌∷◌, subst}
use Rattle.rb_base.specs.Naming.{process_names}
use Rattle.rb_record.specs.Record.{record_of}
use Rattle.rb_record.specs.Recorded.{IsRefusedFor}
use Rattle.rb_commands.specs.Held.{HoldsRecord}
use Rattle.rb_commands.proofs.Recorded.{record_not_taken, record_taken, source_not_taken, source_taken}
use Rattle.rb_commands.proofs.Taken.{next_is_short}
use Rattle.rb_commands.proofs.plain.PlainCommand.take.Goals as goal

pub judge_source-requires : goal.judge_source-requires
judge_source-requires c =
    next_is_short (c.args.self.now.source.now ∷ c.args.self.now.kept.now ∷ []) c.args.text.now (λ texts. HoldsRecord texts c.args.held) c.requires

pub returns-in-Ok-clause-held : goal.returns-in-Ok-clause-held
returns-in-Ok-clause-held c =
    rw c.in-Nothing.is
    (source_taken c.args.self.now.source.now c.args.self.now.kept.now c.args.text.now c.in-Ok.judged c.in-Ok.ensures.judged)

pub returns-in-Nothing-clause-refused : goal.returns-in-Nothing-clause-refused
returns-in-Nothing-clause-refused c = rw c.in-Nothing.is (source_not_taken c.args.text.now c.in-Err.stop c.in-Err.ensures.refused)

pub read-requires : goal.read-requires
read-requires c = record {
  short = next_is_short (c.args.self.now.source.now ∷ c.args.self.now.kept.now ∷ []) c.args.text.now (λ texts. HoldsRecord texts c.args.held) c.requires;
}

pub returns-in-Ok-read-clause-held : goal.returns-in-Ok-read-clause-held
returns-in-Ok-read-clause-held c =
    rw c.in-Source.is
    (record_taken c.args.self.now.source.now c.args.self.now.kept.now c.args.text.now c.in-Source.judged c.in-Ok-read.turns
    c.in-Ok-read.ensures.turns c.in-Ok-read.ensures.known)

pub returns-in-Err-Fault-clause-refused : goal.returns-in-Err-Fault-clause-refused
returns-in-Err-Fault-clause-refused c =
    rw c.in-Source.is
    (record_not_taken c.args.text.now c.in-Source.judged c.in-Err-Fault.fault
    (subst (IsRefusedFor (record_of (process_names c.in-Source.judged.names) c.args.text.now)) c.in-Err-Fault.field-0-is
    c.in-Err-Fault.ensures.turns))
