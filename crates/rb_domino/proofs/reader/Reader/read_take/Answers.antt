use Rattle.std.proofs.Common.{◌≡◌, ℕ, ◌<◌, List, false, true, Some, Ok, Err, cond, length, vec_len, refl, ap, sym, ◌∙◌, arith}
use Rattle.std.proofs.lemmas.List.{length-map}
use Rattle.std.specs.Vec.{with_item}
use Rattle.rb_base.specs.declared.fault.FaultName.TheVariants.{H4}
use Rattle.rb_domino.specs.declared.line.Line.TheVariants.{Take}
use Rattle.rb_domino.specs.declared.reader.Reader.{Reader}
use Rattle.rb_domino.specs.History.{before_failure, has_failed, if_known, is_taken, message_of, taken, with_line}
use Rattle.rb_domino.specs.Reading.{Stands, story_of}
use Rattle.rb_domino.proofs.Named.{named_below}
use Rattle.rb_domino.proofs.LinesAdded.{names_of, stands_line, taken_now, takes_line, told_quiet, unfailed_still}
use Rattle.rb_domino.proofs.reader.Reader.read_take.Goals as goal

-- a message that is known has its mark
has_mark : (reader : Reader) (name : List ℕ) (m : ℕ) → Stands reader → Some m ≡ message_of (story_of reader) name → m < vec_len reader.taken
has_mark reader name m stands known =
    let messages = reader.messages in
    let named : m < length (names_of messages.items) = named_below _ _ m (sym known) in
    omega (arith, named, length-map messages.items (λ one. one.name), messages.ok.0, stands.marks)

pub is_taken-requires-clause-known : goal.is_taken-requires-clause-known
is_taken-requires-clause-known c = has_mark c.args.self.now c.args.name.now c.in-Some.message c.requires.stands c.in-Some.ensures

pub returns-then-is_taken-clause-takes : goal.returns-then-is_taken-clause-takes
returns-then-is_taken-clause-takes c =
    let story = story_of c.args.self.now in
    let m = c.in-Some.message in
    ap (before_failure story)
    (ap (λ o. if_known H4 o (λ n. cond (is_taken story n) (Err H4) (Ok (with_line story (Take n))))) (sym c.in-Some.ensures)
    ∙ ap (λ b. cond b (Err H4) (Ok (with_line story (Take m)))) (sym c.is_taken.ensures ∙ c.if-is_taken.true))

pub index_mut-requires : goal.index_mut-requires
index_mut-requires c = has_mark c.args.self.now c.args.name.now c.in-Some.message c.requires.stands c.in-Some.ensures

pub returns-clause-takes : goal.returns-clause-takes
returns-clause-takes c =
    let old = c.args.self.now in
    let story = story_of old in
    let stands = c.requires.stands in
    let m = c.in-Some.message in
    let quiet : has_failed story ≡ false = c.in_ok-before_failure.ensures in
    let known : m < vec_len old.taken = has_mark old c.args.name.now m stands c.in-Some.ensures in
    let below : m < length old.messages.items = omega (arith, known, old.messages.ok.0, stands.marks) in
    let within : m < length old.taken.items = omega (arith, known, old.taken.ok.0) in
    let untaken : is_taken story m ≡ false = sym c.is_taken.ensures ∙ c.if-is_taken.false in
    let lines = c.add_line.new.lines in
    takes_line _ (record old { lines = lines; taken = with_item old.taken m true }) _ _ c.add_line.result c.add_line.ensures.added
    c.add_line.ensures.len
    (λ more longer. (
      told_quiet story (with_line story (Take m)) _ _ quiet
          (ap (λ o. if_known H4 o (λ n. cond (is_taken story n) (Err H4) (Ok (with_line story (Take n))))) (sym c.in-Some.ensures)
          ∙ ap (λ b. cond b (Err H4) (Ok (with_line story (Take m)))) untaken)
          (λ i. record { processes = story.processes; messages = story.messages; lines = sym more i }),
      stands_line old lines (with_item old.taken m true) old.failed (Take m) stands (taken m stands.history quiet below untaken) more longer
          (λ k. taken_now old m _ lines.items k stands within refl more) refl (unfailed_still old (Take m) lines.items stands more refl),
    ))
