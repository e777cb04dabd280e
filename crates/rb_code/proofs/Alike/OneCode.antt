-- One code stands for a tree: the numbers of texts follow from their order.
use Rattle.std.proofs.Common.{◌≡◌, ◌⊎◌, inl, inr, ℕ, suc, ◌+◌, ◌<◌, List, [], ◌∷◌, length, slice_get, unwrap_or, Some, None, refl, ap, sym, ◌∙◌, subst, arith}
use Rattle.std.specs.Option.{option_map}
use Rattle.rb_base.specs.declared.edition.Edition.{Edition}
use Rattle.rb_world.specs.Kind.{Ends}
use Rattle.rb_world.specs.Text.{Naming}
use Rattle.rb_world.proofs.ListFacts.{none_some, some_same}
use Rattle.rb_code.specs.Instructions.Plain.{Block, Code, Part}
use Rattle.rb_code.specs.WordMachine.Workspace.{no_part}
use Rattle.rb_syntax.specs.Tree.{Tree}
use Rattle.rb_scope.specs.InFrames.{ProcessInFrames, Resolved}
use Rattle.rb_scope.specs.Slots.{AreSlots}
use Rattle.rb_scope.specs.declared.slot.Slot.{Slot}
use Rattle.rb_code.specs.Agreement.Template.{Template}
use Rattle.rb_code.specs.Agreement.StandsFor.{StandsFor, numbers_from, text_numbers}
use Rattle.rb_code.specs.Agreement.OneCode.{OneCodeStands, OneCodeWithSlots}
use Rattle.rb_code.specs.declared.instr.Instr.{Instr}
use Rattle.rb_code.specs.declared.instr.Instr.TheVariants.{Text}
use Rattle.rb_code.proofs.Alike.AlikeCode.{AlikeBetween, shown}
use Rattle.rb_code.proofs.Alike.AlikeParts.{SameStarts}
use Rattle.rb_code.proofs.Alike.AlikeProcesses.{processes_alike}
use Rattle.rb_code.proofs.Alike.SameTemplates.{processes_same}

-- lists of one length with the same elements
list_same : {A : Type 0} (xs ys : List A) → length xs ≡ length ys → ((k : ℕ) → k < length xs → slice_get xs k ≡ slice_get ys k) → xs ≡ ys
list_same [] [] long same = refl
list_same [] (y ∷ ys) long same = absurd (omega (arith, long))
list_same (x ∷ xs) [] long same = absurd (omega (arith, long))
list_same (x ∷ xs) (y ∷ ys) long same =
    let first : x ≡ y = some_same (same 0 (omega arith)) in
    ap (λ z. z ∷ xs) first ∙ ap (λ zs. y ∷ zs) (list_same xs ys (omega (arith, long)) (λ k low. same (suc k) (omega arith)))

-- an instruction but that of a text
record IsPlain (instr : Instr) : Type 0 where
  shows : (c : Code) → shown c (Some instr) ≡ (Some instr, None)
  counts : (instrs : List Instr) → text_numbers (instr ∷ instrs) ≡ text_numbers instrs

text_or_plain : (instr : Instr) → ((k : ℕ) × (instr ≡ Text k)) ⊎ IsPlain instr
text_or_plain (Text k) = inl (k, refl)
text_or_plain _ = inr (record { shows = λ c. refl; counts = λ instrs. refl })

-- the texts of a code from number n on
abbrev HasTexts : Code → ℕ → List (List ℕ) → Type 0
HasTexts c n texts = (k : ℕ) → slice_get c.texts (n + k) ≡ slice_get texts k

module _ (c d : Code) where
  -- what follows of the instructions behind a place: with the texts from some number on they are the same
  abbrev Behind : List Instr → List Instr → Type 0
  Behind these those =
      (n : ℕ) (texts others : List (List ℕ)) → text_numbers these ≡ numbers_from n texts → text_numbers those ≡ numbers_from n others
      → HasTexts c n texts → HasTexts d n others → (these ≡ those) × (texts ≡ others)

  further : (e : Code) (n : ℕ) (text : List ℕ) (texts : List (List ℕ)) → HasTexts e n (text ∷ texts) → HasTexts e (n + 1) texts
  further e n text texts has k =
      let on : n + 1 + k ≡ n + suc k = omega arith in
      ap (slice_get e.texts) on ∙ has (suc k)

  first_text : (e : Code) (n k : ℕ) (text : List ℕ) (texts : List (List ℕ)) → k ≡ n → HasTexts e n (text ∷ texts) → slice_get e.texts k ≡ Some text
  first_text e n k text texts is has =
      let here : k ≡ n + 0 = omega arith in
      ap (slice_get e.texts) here ∙ has 0

  both_texts : (k l : ℕ) (these those : List Instr) (n : ℕ) (texts others : List (List ℕ)) → k ∷ text_numbers these ≡ numbers_from n texts
      → l ∷ text_numbers those ≡ numbers_from n others → slice_get c.texts k ≡ slice_get d.texts l → HasTexts c n texts → HasTexts d n others
      → Behind these those → (Text k ∷ these ≡ Text l ∷ those) × (texts ≡ others)
  both_texts k l these those n [] others e f same has have rest = absurd (cc)
  both_texts k l these those n (text ∷ texts) [] e f same has have rest = absurd (cc)
  both_texts k l these those n (text ∷ texts) (other ∷ others) e f same has have rest =
      let is : k ≡ n = cc in
      let it : l ≡ n = cc in
      let behind : text_numbers these ≡ numbers_from (n + 1) texts = cc in
      let after : text_numbers those ≡ numbers_from (n + 1) others = cc in
      let more = rest (n + 1) texts others behind after (further c n text texts has) (further d n other others have) in
      let shares : text ≡ other = some_same (sym (first_text c n k text texts is has) ∙ same ∙ first_text d n l other others it have) in (
        ap (λ z. Text z ∷ these) (is ∙ sym it) ∙ ap (λ z. Text l ∷ z) more.0,
        ap (λ z. z ∷ texts) shares ∙ ap (λ z. other ∷ z) more.1,
      )

  step : (i j : Instr) (these those : List Instr) (n : ℕ) (texts others : List (List ℕ)) → ((k : ℕ) × (i ≡ Text k)) ⊎ IsPlain i
      → ((k : ℕ) × (j ≡ Text k)) ⊎ IsPlain j → shown c (Some i) ≡ shown d (Some j) → text_numbers (i ∷ these) ≡ numbers_from n texts
      → text_numbers (j ∷ those) ≡ numbers_from n others → HasTexts c n texts → HasTexts d n others → Behind these those
      → (i ∷ these ≡ j ∷ those) × (texts ≡ others)
  step i j these those n texts others (inl (k, i_is)) (inl (l, j_is)) same e f has have rest =
      let all = both_texts k l these those n texts others (sym (ap (λ z. text_numbers (z ∷ these)) i_is) ∙ e)
      (sym (ap (λ z. text_numbers (z ∷ those)) j_is) ∙ f)
      (some_same (ap (λ z. z.1) (sym (ap (λ z. shown c (Some z)) i_is) ∙ same ∙ ap (λ z. shown d (Some z)) j_is))) has have rest in
      (ap (λ z. z ∷ these) i_is ∙ all.0 ∙ sym (ap (λ z. z ∷ those) j_is), all.1)
  step i j these those n texts others (inl (k, i_is)) (inr plain) same e f has have rest =
      absurd (none_some (sym (ap (λ z. z.1) (sym (ap (λ z. shown c (Some z)) i_is) ∙ same ∙ plain.shows d))))
  step i j these those n texts others (inr plain) (inl (l, j_is)) same e f has have rest =
      absurd (none_some (ap (λ z. z.1) (sym (plain.shows c) ∙ same ∙ ap (λ z. shown d (Some z)) j_is)))
  step i j these those n texts others (inr one) (inr other) same e f has have rest =
      let is : i ≡ j = some_same (ap (λ z. z.0) (sym (one.shows c) ∙ same ∙ other.shows d)) in
      let all = rest n texts others (sym (one.counts these) ∙ e) (sym (other.counts those) ∙ f) has have in
      (ap (λ z. z ∷ these) is ∙ ap (λ z. j ∷ z) all.0, all.1)

  same_instrs : (these those : List Instr) → length these ≡ length those
      → ((z : ℕ) → z < length these → shown c (slice_get these z) ≡ shown d (slice_get those z)) → Behind these those
  same_instrs [] [] long alike n [] [] e f has have = (refl, refl)
  same_instrs [] [] long alike n (text ∷ texts) others e f has have = absurd (cc)
  same_instrs [] [] long alike n [] (other ∷ others) e f has have = absurd (cc)
  same_instrs [] (j ∷ those) long alike n texts others e f has have = absurd (omega (arith, long))
  same_instrs (i ∷ these) [] long alike n texts others e f has have = absurd (omega (arith, long))
  same_instrs (i ∷ these) (j ∷ those) long alike n texts others e f has have =
      step i j these those n texts others (text_or_plain i) (text_or_plain j) (alike 0 (omega arith)) e f has have
      (λ m ts us g h x y. same_instrs these those (omega (arith, long)) (λ z low. alike (suc z) (omega arith)) m ts us g h x y)

  all_texts : (e : Code) → HasTexts e 0 e.texts
  all_texts e k = let same : 0 + k ≡ k = omega arith in ap (slice_get e.texts) same

-- two codes with the same fields are the same
code_of : Edition → List Instr → List Part → List Block → List Ends → List (List ℕ) → Naming → Code
code_of edition instrs processes blocks channels texts names =
    record { edition = edition; instrs = instrs; processes = processes; blocks = blocks; channels = channels; texts = texts; names = names }

code_same : (c d : Code) → c.edition ≡ d.edition → c.instrs ≡ d.instrs → c.processes ≡ d.processes → c.blocks ≡ d.blocks → c.channels ≡ d.channels
    → c.texts ≡ d.texts → c.names ≡ d.names → c ≡ d
unfolding code_of
code_same c d edition instrs processes blocks channels texts names =
    ap (λ x. code_of x c.instrs c.processes c.blocks c.channels c.texts c.names) edition
    ∙ ap (λ x. code_of d.edition x c.processes c.blocks c.channels c.texts c.names) instrs
    ∙ ap (λ x. code_of d.edition d.instrs x c.blocks c.channels c.texts c.names) processes
    ∙ ap (λ x. code_of d.edition d.instrs d.processes x c.channels c.texts c.names) blocks
    ∙ ap (λ x. code_of d.edition d.instrs d.processes d.blocks x c.texts c.names) channels
    ∙ ap (λ x. code_of d.edition d.instrs d.processes d.blocks d.channels x c.names) texts
    ∙ ap (λ x. code_of d.edition d.instrs d.processes d.blocks d.channels d.texts x) names

pub one_code_with_slots : OneCodeWithSlots
one_code_with_slots tree slots c d numbered these those =
    let whole = processes_alike c d tree slots 0 0 tree.processes numbered.processes c.processes d.processes in
    let told = whole.told 0 (length c.instrs) 0 (length d.instrs) refl these.instrs_are those.instrs_are in
    let long : length c.instrs ≡ length d.instrs = whole.ends 0 (length c.instrs) 0 (length d.instrs) refl these.instrs_are those.instrs_are in
    let starts : SameStarts c d =
    λ p number. ap
    (λ parts. unwrap_or (option_map (λ one. one.start) (slice_get (unwrap_or (slice_get parts p) no_part).procedures number)) 0) told.0 in
    let alike : AlikeBetween c d 0 (length c.instrs) =
    whole.alike starts 0 (length c.instrs) 0 (length d.instrs) refl these.instrs_are those.instrs_are in
    let all = same_instrs c d c.instrs d.instrs long (λ z low. alike z (omega arith) low) 0 c.texts d.texts these.one_text_each those.one_text_each
    (all_texts c d c) (all_texts c d d) in
    let many = numbered.blocks in
    let blocks = list_same c.blocks d.blocks (these.one_block_each ∙ sym those.one_block_each)
    (λ k low. told.1 k (omega arith) (omega (arith, low, these.one_block_each, many))) in
    code_same c d (these.edition_is ∙ sym those.edition_is) all.0 told.0 blocks (these.channels_are ∙ sym those.channels_are) all.1
    (these.names_are ∙ sym those.names_are)

-- what stands for a tree with some slots does so with others, where it is resolved by both
stands_with : (tree : Tree) (slots others : List Slot) (d : Code) → Resolved tree slots → Resolved tree others → AreSlots tree slots
    → StandsFor tree others d → StandsFor tree slots d
stands_with tree slots others d resolved known are stands =
    let at : (i : ℕ) → i ≡ 0 + i = λ i. omega arith in
    let same = processes_same slots others tree are 0 tree.processes
    (λ i process there. subst (λ k. ProcessInFrames tree slots k process) (at i) (resolved.processes i process there))
    (λ i process there. subst (λ k. ProcessInFrames tree others k process) (at i) (known.processes i process there)) in
    record {
      edition_is = stands.edition_is;
      names_are = stands.names_are;
      channels_are = stands.channels_are;
      instrs_are = subst (λ (P : List Part → Template). P d.processes d 0 (length d.instrs)) (sym same) stands.instrs_are;
      one_block_each = stands.one_block_each;
      one_text_each = stands.one_text_each;
    }

pub one_code_stands : OneCodeStands
one_code_stands tree slots others c d numbered resolved known are have these those =
    one_code_with_slots tree slots c d numbered these (stands_with tree slots others d resolved known are those)
