use Rattle.std.proofs.Common.{ℕ, List, map, ap₂}
use Rattle.std.proofs.lemmas.List.{map-id}
use Rattle.std.proofs.lemmas.Result.{err_from_is_err_and}
use Rattle.rb_trace.specs.Naming.{naming}
use Rattle.rb_code.specs.Instructions.Plain.{block, channel, part}
use Rattle.rb_code.specs.declared.instr.Instr.{Instr}
use Rattle.rb_image.specs.Reading.{both, list_at}
use Rattle.rb_image.specs.ReadInstrs.{instr_at}
use Rattle.rb_image.specs.ReadParts.{code_at, code_of, edition_at, names_at, tables_at}
use Rattle.rb_image.proofs.Chains.{made_as, made_fails}
use Rattle.rb_image.proofs.read.image.CodeItem.read.Goals as goal

pub returns-in_err-parts : goal.returns-in_err-parts
unfolding code_at tables_at
returns-in_err-parts c =
    let p = err_from_is_err_and c.from_residual.result c.from_residual.ensures.1 in
    rw (p.1, p.2)
    (made_fails _ code_of (both edition_at (both (list_at 1 instr_at) (both tables_at names_at))) c.args.bytes.now c.in_err-parts.ensures)

pub returns : goal.returns
unfolding code_at tables_at
returns c =
    let parts = c.in_ok-parts.parts in
    let tables = parts.1.1.0 in
    made_as code_of (both edition_at (both (list_at 1 instr_at) (both tables_at names_at))) c.args.bytes.now _ _ c.in_ok-parts.ensures
    (ap₂ (λ (instrs : List Instr) (texts : List (List ℕ)).
    code_of (
      parts.0,
      (
        instrs,
        ((map part tables.0.items, (map block tables.1.0.items, (map channel tables.1.1.0.items, texts))), naming parts.1.1.1),
      ),
    ))
    (map-id parts.1.0.items) (map-id tables.1.1.1.items))
