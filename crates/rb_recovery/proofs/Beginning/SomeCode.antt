-- A code, so that what is told of every code is told.
use Rattle.std.proofs.Common.{[]}
use Rattle.rb_base.specs.declared.edition.Edition.TheVariants.{First}
use Rattle.rb_code.specs.Instructions.Plain.{Code}

pub some_code : Code
some_code = record {
  edition = First;
  instrs = [];
  processes = [];
  blocks = [];
  channels = [];
  texts = [];
  names = record { processes = []; channels = []; conversations = [] };
}
