-- What a reader knows stands with a line more.
use Rattle.std.proofs.Common.{◌≡◌, ℕ, ◌+◌, ◌<◌, ◌==◌, ◌++◌, ◌∷◌, [], true, false, cond, Bool, List, None, Option, Some, Ok, Err, Result, MatchResult, OnOk, Vec, Global, length, map, get_or-set_other, get_or-set_same, slice_index_or, slice_set, refl, ap, ◌∙◌, sym, subst, arith}
use Rattle.std.specs.List.{list_any}
use Rattle.std.specs.Option.{is_some}
use Rattle.std.proofs.lemmas.Bool.{eqb-false, eqb-true}
use Rattle.std.specs.Borrow.{Bor}
use Rattle.std.specs.BTreeMap.{BTreeMap}
use Rattle.rb_base.specs.declared.fault.FaultName.{FaultName}
use Rattle.rb_base.specs.declared.fault.FaultName.TheVariants.{H5}
use Rattle.rb_domino.specs.declared.line.Line.{Line}
use Rattle.rb_domino.specs.declared.line.Line.TheVariants.{Begin, Send, Take}
use Rattle.rb_domino.specs.declared.line.Message.{Message}
use Rattle.rb_domino.specs.declared.reader.LineRefusal.{LineRefusal}
use Rattle.rb_domino.specs.declared.reader.LineRefusal.TheVariants.{Memory}
use Rattle.rb_domino.specs.declared.reader.Reader.{Reader}
use Rattle.rb_domino.specs.History.{IsHistory, Story, begun, before_failure, has_failed, is_failure, is_take_of, process_of, sends, sent_by, with_line}
use Rattle.rb_domino.specs.Reading.{FindsNames, Stands, Takes, story_of}
use Rattle.rb_domino.proofs.Named.{any_now, any_still, marks_added, names_added}

-- the names of messages
abbrev pub names_of : List Message → List (List ℕ)
names_of messages = map (λ m. m.name) messages

-- nothing stands in a line's way where no process has failed
pub told_quiet : (story next new : Story) (told : Result Story FaultName) → has_failed story ≡ false → told ≡ Ok next → next ≡ new
    → before_failure story told ≡ Ok new
told_quiet story next new told quiet is same =
    ap (before_failure story) is ∙ ap (λ b. cond b (Err H5) (Ok next)) quiet ∙ ap (λ (s : Story). Ok s) same

-- a line that takes no message, or is no failure, changes nothing of that
pub untaken_still : (old : Reader) (line : Line) (items : List Line) (m : ℕ) → Stands old → items ≡ old.lines.items ++ line ∷ []
    → is_take_of m line ≡ false → slice_index_or old.taken.items m false ≡ list_any (is_take_of m) items
untaken_still old line items m stands more other =
    stands.marked m ∙ sym (ap (list_any (is_take_of m)) more ∙ any_still (is_take_of m) old.lines.items line other)

pub unfailed_still : (old : Reader) (line : Line) (items : List Line) → Stands old → items ≡ old.lines.items ++ line ∷ []
    → is_failure line ≡ false → old.failed ≡ list_any is_failure items
unfailed_still old line items stands more other =
    stands.failed ∙ sym (ap (list_any is_failure) more ∙ any_still is_failure old.lines.items line other)

-- a line alone is new, with its marks
pub stands_line : (old : Reader) (lines : Vec Line Global) (taken : Vec Bool Global) (failed : Bool) (line : Line) → Stands old
    → IsHistory (with_line (story_of old) line) → lines.items ≡ old.lines.items ++ line ∷ [] → lines.len ≡ old.lines.len + 1
    → ((m : ℕ) → slice_index_or taken.items m false ≡ list_any (is_take_of m) lines.items) → taken.len ≡ old.taken.len
    → failed ≡ list_any is_failure lines.items
    → Stands (record old { lines = lines; taken = taken; failed = failed })
stands_line old lines taken failed line stands history more longer marked marks is_failed = record {
  history = subst IsHistory (λ i. record { processes = old.processes.items; messages = old.messages.items; lines = sym more i }) history;
  processes = stands.processes;
  messages = stands.messages;
  marked = marked;
  marks = marks ∙ stands.marks;
  failed = is_failed;
  few_processes = omega (arith, stands.few_processes);
  few_messages = omega (arith, stands.few_messages);
}

-- a process begins
pub stands_process : (old : Reader) (processes : Vec (List ℕ) Global) (numbers : BTreeMap (Bor (List ℕ)) ℕ) (lines : Vec Line Global) (name : List ℕ)
    → Stands old → has_failed (story_of old) ≡ false → process_of (story_of old) name ≡ None
    → processes.items ≡ old.processes.items ++ name ∷ [] → processes.len ≡ old.processes.len + 1
    → FindsNames numbers (old.processes.items ++ name ∷ [])
    → lines.items ≡ old.lines.items ++ Begin (length old.processes.items) ∷ [] → lines.len ≡ old.lines.len + 1
    → Stands (record old { processes = processes; process_numbers = numbers; lines = lines })
stands_process old processes numbers lines name stands quiet unknown named one_more finds more longer = record {
  history = subst IsHistory (λ i. record { processes = sym named i; messages = old.messages.items; lines = sym more i })
      (begun name stands.history quiet unknown);
  processes = subst (FindsNames numbers) (sym named) finds;
  messages = stands.messages;
  marked = λ m. untaken_still old (Begin (length old.processes.items)) lines.items m stands more refl;
  marks = stands.marks;
  failed = unfailed_still old (Begin (length old.processes.items)) lines.items stands more refl;
  few_processes = omega (arith, stands.few_processes);
  few_messages = omega (arith, stands.few_messages);
}

-- a message is sent
pub stands_message : (old : Reader) (messages : Vec Message Global) (numbers : BTreeMap (Bor (List ℕ)) ℕ) (taken : Vec Bool Global)
    (lines : Vec Line Global) (name : List ℕ) (p q : ℕ) → Stands old → IsHistory (sends (story_of old) name p q)
    → messages.items ≡ old.messages.items ++ sent_by (story_of old) name p q ∷ [] → messages.len ≡ old.messages.len + 1
    → FindsNames numbers (names_of old.messages.items ++ name ∷ [])
    → taken.items ≡ old.taken.items ++ false ∷ [] → taken.len ≡ old.taken.len + 1
    → lines.items ≡ old.lines.items ++ Send (length old.messages.items) ∷ [] → lines.len ≡ old.lines.len + 1
    → Stands (record old { messages = messages; message_numbers = numbers; taken = taken; lines = lines })
stands_message old messages numbers taken lines name p q stands history told one_more finds marks mark_more more longer = record {
  history = subst IsHistory (λ i. record { processes = old.processes.items; messages = sym told i; lines = sym more i }) history;
  processes = stands.processes;
  messages = subst (FindsNames numbers) (sym (ap names_of told ∙ names_added old.messages.items (sent_by (story_of old) name p q))) finds;
  marked = λ m. ap (λ (set : List Bool). slice_index_or set m false) marks ∙ marks_added old.taken.items m
      ∙ untaken_still old (Send (length old.messages.items)) lines.items m stands more refl;
  marks = omega (arith, stands.marks);
  failed = unfailed_still old (Send (length old.messages.items)) lines.items stands more refl;
  few_processes = omega (arith, stands.few_processes);
  few_messages = omega (arith, stands.few_messages);
}

-- what comes of the line's push is what comes of the line
pub takes_line : (told : Result Story FaultName) (new : Reader) (items : List Line) (longer : ℕ) (r : Result (Unit {0}) LineRefusal)
    → MatchResult r (λ _. new.lines.items ≡ items) (λ refusal. refusal ≡ Memory) → OnOk r (new.lines.len ≡ longer)
    → (new.lines.items ≡ items → new.lines.len ≡ longer → (told ≡ Ok (story_of new)) × Stands new) → Takes told new r
takes_line told new items longer (Ok done) added len goes_on = goes_on added len
takes_line told new items longer (Err refusal) added len goes_on = subst (λ e. Takes told new (Err e)) (sym added) tt

-- a message is taken, and marked
pub taken_now : (old : Reader) (m : ℕ) (marks : List Bool) (items : List Line) (k : ℕ) → Stands old → m < length old.taken.items
    → marks ≡ slice_set old.taken.items m true → items ≡ old.lines.items ++ Take m ∷ []
    → slice_index_or marks k false ≡ list_any (is_take_of k) items
taken_now old m marks items k stands within marked more =
    ap (λ (set : List Bool). slice_index_or set k false) marked ∙ by (m == k) refl
    ∙ sym (ap (list_any (is_take_of k)) more)
  where
    by : (b : Bool) → (m == k) ≡ b
        → slice_index_or (slice_set old.taken.items m true) k false ≡ list_any (is_take_of k) (old.lines.items ++ Take m ∷ [])
    by true same =
        ap (λ (n : ℕ). slice_index_or (slice_set old.taken.items m true) n false) (sym (eqb-true m k same))
        ∙ get_or-set_same old.taken.items m true false within
        ∙ sym (any_now (is_take_of k) old.lines.items (Take m) same)
    by false other =
        get_or-set_other old.taken.items m k true false (λ is. eqb-false m k other (sym is))
        ∙ stands.marked k ∙ sym (any_still (is_take_of k) old.lines.items (Take m) other)

-- no name is found
pub none_known : (o : Option ℕ) → is_some o ≡ false → o ≡ None
none_known None none = refl
none_known (Some n) none = absurd (cc)
