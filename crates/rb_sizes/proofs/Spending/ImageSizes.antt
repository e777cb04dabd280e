-- How long the parts of an image are.
use Rattle.std.proofs.Common.{◌≡◌, ℕ, suc, ◌+◌, ◌*◌, ◌≤◌, List, [], ◌∷◌, ◌++◌, length, slice_get, Option, Some, None, unwrap_or, sum_by, refl, sym, ap, ◌∙◌, arith, length-append}
use Rattle.std.specs.List.{flat_map}
use Rattle.std.proofs.lemmas.List.Sums.{sum_by-cons}
use Rattle.rb_world.specs.Kind.{Ends}
use Rattle.rb_code.specs.Instructions.Plain.{Block, Code, Part, Procedure}
use Rattle.rb_code.specs.Agreement.StandsFor.{numbers_from, text_numbers}
use Rattle.rb_code.specs.declared.instr.Instr.{Instr}
use Rattle.rb_code.specs.declared.instr.Instr.TheVariants.{Load, Prior, LoadAt, PriorAt, Store, StoreAt, Text}
use Rattle.rb_code.specs.declared.instr.Spot.TheVariants.{Global, Local}
use Rattle.rb_image.specs.Pieces.{list, natural, number, optional, text}
use Rattle.rb_image.specs.Instrs.{instr}
use Rattle.rb_image.specs.Image.{block, channel, procedure, process}
use Rattle.rb_sizes.proofs.Spending.Spent.{block_cost, cost, joined_cost, part_cost, parts_cost, procedures_cost, text_cost}

pub natural_long : (n : ℕ) → length (natural n) ≡ 8
unfolding number
natural_long n = refl

-- how long all items are
pub items_long : {X : Type 0} → (X → List ℕ) → List X → ℕ
items_long item xs = length (flat_map item xs)

pub items_none : {X : Type 0} (item : X → List ℕ) → items_long item [] ≡ 0
unfolding items_long
items_none item = refl

pub items_more : {X : Type 0} (item : X → List ℕ) (x : X) (xs : List X) → items_long item (x ∷ xs) ≡ length (item x) + items_long item xs
unfolding items_long
items_more item x xs = length-append (item x) (flat_map item xs)

pub list_long : {X : Type 0} (item : X → List ℕ) (xs : List X) → length (list item xs) ≡ 8 + items_long item xs
unfolding items_long
list_long item xs = length-append (natural (length xs)) (flat_map item xs) ∙ ap (λ n. n + length (flat_map item xs)) (natural_long (length xs))

pub text_long : (bytes : List ℕ) → length (text bytes) ≡ 8 + length bytes
text_long bytes = length-append (natural (length bytes)) bytes ∙ ap (λ n. n + length bytes) (natural_long (length bytes))

pub naturals_long : (ns : List ℕ) → length (list natural ns) ≡ 8 + 8 * length ns
naturals_long ns = list_long natural ns ∙ ap (λ n. 8 + n) (each ns)
  where
    each : (ns : List ℕ) → items_long natural ns ≡ 8 * length ns
    each [] = items_none natural
    each (n ∷ ns) = let more = items_more natural n ns in let one = natural_long n in let rest = each ns in omega arith

-- a number before others, an optional one, and a list before others
pub behind_long : (n : ℕ) (rest : List ℕ) → length (natural n ++ rest) ≡ 8 + length rest
behind_long n rest = length-append (natural n) rest ∙ ap (λ k. k + length rest) (natural_long n)

pub optional_long : (o : Option ℕ) → length (optional o) ≡ 8 + joined_cost o
optional_long None = natural_long 0
optional_long (Some n) = let a = natural_long n in let b = behind_long 1 (natural n) in omega arith

pub list_behind : {X : Type 0} (item : X → List ℕ) (xs : List X) (rest : List ℕ)
    → length (list item xs ++ rest) ≡ 8 + items_long item xs + length rest
list_behind item xs rest = length-append (list item xs) rest ∙ ap (λ k. k + length rest) (list_long item xs)

-- an instruction, but for the text that it names
abbrev named_cost : Code → Instr → ℕ
named_cost c (Text k) = text_cost c k
named_cost c other = 0

instr_costs : (c : Code) (one : Instr) → cost c one ≡ length (instr one) + named_cost c one
unfolding number
instr_costs c (Load (Global k)) = refl
instr_costs c (Load (Local k)) = refl
instr_costs c (Prior (Global k)) = refl
instr_costs c (Prior (Local k)) = refl
instr_costs c (LoadAt (Global k)) = refl
instr_costs c (LoadAt (Local k)) = refl
instr_costs c (PriorAt (Global k)) = refl
instr_costs c (PriorAt (Local k)) = refl
instr_costs c (Store (Global k)) = refl
instr_costs c (Store (Local k)) = refl
instr_costs c (StoreAt (Global k)) = refl
instr_costs c (StoreAt (Local k)) = refl
instr_costs c _ = refl

-- instructions, each text with the instruction that names it
texts_more : (c : Code) (one : Instr) (instrs : List Instr)
    → sum_by (text_cost c) (text_numbers (one ∷ instrs)) ≡ named_cost c one + sum_by (text_cost c) (text_numbers instrs)
texts_more c (Text k) instrs = sum_by-cons (text_cost c) k (text_numbers instrs)
texts_more c _ instrs = omega arith

instrs_cost : (c : Code) (instrs : List Instr)
    → sum_by (cost c) instrs ≡ items_long instr instrs + sum_by (text_cost c) (text_numbers instrs)
instrs_cost c [] = let none = items_none instr in omega arith
instrs_cost c (one ∷ instrs) =
    let first = sum_by-cons (cost c) one instrs in
    let more = items_more instr one instrs in
    let named = texts_more c one instrs in
    let here = instr_costs c one in
    let rest = instrs_cost c instrs in
    omega arith

-- the texts of these numbers are those of the list
numbers_cost : (c : Code) (n : ℕ) (texts : List (List ℕ)) → ((i : ℕ) (bytes : List ℕ) → slice_get texts i ≡ Some bytes
    → slice_get c.texts (n + i) ≡ Some bytes)
    → sum_by (text_cost c) (numbers_from n texts) ≡ items_long text texts
numbers_cost c n [] at = sym (items_none text)
numbers_cost c n (bytes ∷ texts) at =
    let first = sum_by-cons (text_cost c) n (numbers_from (n + 1) texts) in
    let more = items_more text bytes texts in
    let long = text_long bytes in
    let here : n + 0 ≡ n = omega arith in
    let named : slice_get c.texts n ≡ Some bytes = ap (slice_get c.texts) (sym here) ∙ at 0 bytes refl in
    let same = ap (λ (o : Option (List ℕ)). length (unwrap_or o [])) named in
    let rest = numbers_cost c (n + 1) texts (λ i other e.
    let later : n + 1 + i ≡ n + suc i = omega arith in ap (slice_get c.texts) later ∙ at (suc i) other e) in
    omega arith

pub code_cost : (c : Code) → text_numbers c.instrs ≡ numbers_from 0 c.texts
    → sum_by (cost c) c.instrs ≡ items_long instr c.instrs + items_long text c.texts
code_cost c same =
    let all = instrs_cost c c.instrs in
    let numbers = ap (sum_by (text_cost c)) same in
    let texts = numbers_cost c 0 c.texts (λ i bytes e. let here : 0 + i ≡ i = omega arith in ap (slice_get c.texts) here ∙ e) in
    omega arith

-- recovery blocks
block_long : (one : Block) → length (block one) ≤ block_cost one
block_long one =
    let alternates = list natural one.alternates in
    let from_test = natural one.test ++ alternates in
    let from_restart = natural one.restart ++ from_test in
    let from_bound = natural one.bound ++ from_restart in
    let a = naturals_long one.alternates in
    let b = behind_long one.test alternates in
    let d = behind_long one.restart from_test in
    let e = behind_long one.bound from_restart in
    let f = length-append (optional one.conversation) from_bound in
    let g = optional_long one.conversation in
    let h = behind_long one.line (optional one.conversation ++ from_bound) in
    omega arith

pub blocks_long : (blocks : List Block) → items_long block blocks ≤ sum_by block_cost blocks
blocks_long [] = let none = items_none block in omega arith
blocks_long (one ∷ blocks) =
    let more = items_more block one blocks in let first = sum_by-cons block_cost one blocks in let here = block_long one in
    let rest = blocks_long blocks in omega arith

-- processes
procedures_long : (procedures : List Procedure) → items_long procedure procedures ≡ procedures_cost procedures
procedures_long [] = items_none procedure
procedures_long (one ∷ procedures) =
    let more = items_more procedure one procedures in
    let here = length-append (text one.name) (natural one.start) in
    let name = text_long one.name in
    let start = natural_long one.start in
    let rest = procedures_long procedures in
    omega arith

process_long : (part : Part) → length (process part) ≡ part_cost part
process_long part =
    let procedures = list procedure part.procedures in
    let channels = list natural part.channels in
    let a = list_long procedure part.procedures in
    let b = procedures_long part.procedures in
    let d = length-append channels procedures in
    let e = naturals_long part.channels in
    let f = behind_long part.words (channels ++ procedures) in
    let g = behind_long part.start (natural part.words ++ (channels ++ procedures)) in
    omega arith

pub processes_long : (parts : List Part) → items_long process parts ≡ parts_cost parts
processes_long [] = items_none process
processes_long (part ∷ parts) =
    let more = items_more process part parts in let here = process_long part in let rest = processes_long parts in omega arith

-- channels
channel_long : (one : Ends) → length (channel one) ≡ 24
channel_long one =
    let a = natural_long one.size in
    let b = behind_long one.receiver (natural one.size) in
    let d = behind_long one.sender (natural one.receiver ++ natural one.size) in
    omega arith

pub channels_long : (channels : List Ends) → items_long channel channels ≡ 24 * length channels
channels_long [] = items_none channel
channels_long (one ∷ channels) =
    let more = items_more channel one channels in let here = channel_long one in let rest = channels_long channels in omega arith
