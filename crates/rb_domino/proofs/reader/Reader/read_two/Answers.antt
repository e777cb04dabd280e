use Rattle.std.proofs.Common.{◌≡◌, ℕ, Bool, List, ◌∷◌, [], false, true, cond, Result, Err, sym, ap, ◌∙◌, subst}
use Rattle.rb_base.specs.declared.fault.FaultName.{FaultName}
use Rattle.rb_base.specs.declared.fault.FaultName.TheVariants.{H1}
use Rattle.rb_domino.specs.declared.reader.LineRefusal.{LineRefusal}
use Rattle.rb_domino.specs.declared.reader.Reader.{Reader}
use Rattle.rb_domino.specs.History.{Story, before_failure, is_short_name, read_fail, read_point, read_process, read_take, read_two, read_words}
use Rattle.rb_domino.specs.Reading.{Takes, story_of}
use Rattle.rb_domino.proofs.reader.Reader.read_two.Goals as goal

-- a test is settled
holds : {X : Type 0} (b : Bool) (x y : X) → b ≡ true → cond b x y ≡ x
holds b x y is = ap (λ test. cond test x y) is

fails : {X : Type 0} (b : Bool) (x y : X) → b ≡ false → cond b x y ≡ y
fails b x y is = ap (λ test. cond test x y) is

-- a line of two words was taken as one that its verb tells
taken_as : (story : Story) (verb name : List ℕ) (told : Result Story FaultName) (new : Reader) (r : Result (Unit {0}) LineRefusal) (short : Bool)
    → short ≡ is_short_name name → short ≡ true → read_two story verb name ≡ told → Takes (before_failure story told) new r
    → Takes (read_words story (verb ∷ name ∷ [])) new r
taken_as story verb name told new r short is so as_told takes =
    subst (λ t. Takes t new r)
    (sym (holds (is_short_name name) (before_failure story (read_two story verb name)) (Err H1) (sym is ∙ so) ∙ ap (before_failure story) as_told)) takes

pub returns-then-is_word-clause-takes : goal.returns-then-is_word-clause-takes
returns-then-is_word-clause-takes c =
    let story = story_of c.args.self.now in
    let verb = c.args.verb.now in
    let name = c.args.name.now in
    let is_process = sym c.is_word.ensures ∙ c.if-is_word.true in
    taken_as story verb name (read_process story name) c.read_process.new.self c.read_process.result c.is_short_name.result
    c.is_short_name.ensures c.if-not-is_short_name.false (holds _ _ _ is_process) c.read_process.ensures.takes

pub returns-then-is_word-2-clause-takes : goal.returns-then-is_word-2-clause-takes
returns-then-is_word-2-clause-takes c =
    let story = story_of c.args.self.now in
    let verb = c.args.verb.now in
    let name = c.args.name.now in
    let no_process = sym c.is_word.ensures ∙ c.if-is_word.false in
    let is_point = sym c.is_word-else-is_word.ensures ∙ c.if-is_word-2.true in
    taken_as story verb name (read_point story name) c.read_point.new.self c.read_point.result c.is_short_name.result
    c.is_short_name.ensures c.if-not-is_short_name.false (fails _ _ _ no_process ∙ holds _ _ _ is_point) c.read_point.ensures.takes

pub returns-then-is_word-3-clause-takes : goal.returns-then-is_word-3-clause-takes
returns-then-is_word-3-clause-takes c =
    let story = story_of c.args.self.now in
    let verb = c.args.verb.now in
    let name = c.args.name.now in
    let no_process = sym c.is_word.ensures ∙ c.if-is_word.false in
    let no_point = sym c.is_word-else-is_word.ensures ∙ c.if-is_word-2.false in
    let is_take = sym c.is_word-else-is_word-2.ensures ∙ c.if-is_word-3.true in
    taken_as story verb name (read_take story name) c.read_take.new.self c.read_take.result c.is_short_name.result
    c.is_short_name.ensures c.if-not-is_short_name.false (fails _ _ _ no_process ∙ fails _ _ _ no_point ∙ holds _ _ _ is_take)
    c.read_take.ensures.takes

pub returns-then-is_word-4-clause-takes : goal.returns-then-is_word-4-clause-takes
returns-then-is_word-4-clause-takes c =
    let story = story_of c.args.self.now in
    let verb = c.args.verb.now in
    let name = c.args.name.now in
    let no_process = sym c.is_word.ensures ∙ c.if-is_word.false in
    let no_point = sym c.is_word-else-is_word.ensures ∙ c.if-is_word-2.false in
    let no_take = sym c.is_word-else-is_word-2.ensures ∙ c.if-is_word-3.false in
    let is_fail = sym c.is_word-else-is_word-3.ensures ∙ c.if-is_word-4.true in
    taken_as story verb name (read_fail story name) c.read_fail.new.self c.read_fail.result c.is_short_name.result
    c.is_short_name.ensures c.if-not-is_short_name.false
    (fails _ _ _ no_process ∙ fails _ _ _ no_point ∙ fails _ _ _ no_take ∙ holds _ _ _ is_fail) c.read_fail.ensures.takes

pub returns-else-is_word-4-clause-takes : goal.returns-else-is_word-4-clause-takes
returns-else-is_word-4-clause-takes c =
    let story = story_of c.args.self.now in
    let verb = c.args.verb.now in
    let name = c.args.name.now in
    let no_process = sym c.is_word.ensures ∙ c.if-is_word.false in
    let no_point = sym c.is_word-else-is_word.ensures ∙ c.if-is_word-2.false in
    let no_take = sym c.is_word-else-is_word-2.ensures ∙ c.if-is_word-3.false in
    let no_fail = sym c.is_word-else-is_word-3.ensures ∙ c.if-is_word-4.false in
    holds _ _ _ (sym c.is_short_name.ensures ∙ c.if-not-is_short_name.false)
    ∙ ap (before_failure story) (fails _ _ _ no_process ∙ fails _ _ _ no_point ∙ fails _ _ _ no_take ∙ fails _ _ _ no_fail)

pub read_process-requires-clause-few : goal.read_process-requires-clause-few
read_process-requires-clause-few c = c.requires.few

pub read_process-requires-clause-stands : goal.read_process-requires-clause-stands
read_process-requires-clause-stands c = c.requires.stands

pub read_point-requires-clause-few : goal.read_point-requires-clause-few
read_point-requires-clause-few c = c.requires.few

pub read_point-requires-clause-stands : goal.read_point-requires-clause-stands
read_point-requires-clause-stands c = c.requires.stands

pub read_take-requires-clause-few : goal.read_take-requires-clause-few
read_take-requires-clause-few c = c.requires.few

pub read_take-requires-clause-stands : goal.read_take-requires-clause-stands
read_take-requires-clause-stands c = c.requires.stands

pub read_fail-requires-clause-few : goal.read_fail-requires-clause-few
read_fail-requires-clause-few c = c.requires.few

pub read_fail-requires-clause-stands : goal.read_fail-requires-clause-stands
read_fail-requires-clause-stands c = c.requires.stands

pub returns-then-is_word-clause-grows : goal.returns-then-is_word-clause-grows
returns-then-is_word-clause-grows c = c.read_process.ensures.grows

pub returns-then-is_word-2-clause-grows : goal.returns-then-is_word-2-clause-grows
returns-then-is_word-2-clause-grows c = c.read_point.ensures.grows

pub returns-then-is_word-3-clause-grows : goal.returns-then-is_word-3-clause-grows
returns-then-is_word-3-clause-grows c = c.read_take.ensures.grows

pub returns-then-is_word-4-clause-grows : goal.returns-then-is_word-4-clause-grows
returns-then-is_word-4-clause-grows c = c.read_fail.ensures.grows
