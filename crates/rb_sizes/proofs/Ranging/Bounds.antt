-- What is bounded in a list whose items are, and where the numbers of names, channels and members lie.
use Rattle.std.proofs.Common.{◌≡◌, ℕ, zero, suc, pos, ◌+◌, ◌<◌, ◌≤◌, ◌^◌, nat_eq, Bool, true, false, ◌||◌, cond, List, [], ◌∷◌, length, map, slice_get, sum_by, Option, Some, None, refl, ap, arith}
use Rattle.std.specs.Prelude.{IfSome}
use Rattle.std.specs.List.{All, AllByRecursion}
use Rattle.std.proofs.lemmas.List.{length-map, length-replicate}
use Rattle.std.proofs.lemmas.List.Elements.{recursion_from_All}
use Rattle.std.proofs.lemmas.List.Sums.{sum_by-cons}
use Rattle.rb_base.specs.Limits.{most_processes, most_words}
use Rattle.rb_base.specs.declared.edition.Edition.{Edition}
use Rattle.rb_base.specs.declared.edition.Edition.TheVariants.{First, Second}
use Rattle.rb_syntax.specs.Tree.{ConversationDeclaration, Declaration, ProcessDeclaration, Tree}
use Rattle.rb_world.proofs.ListFacts.{none_some, some_same}
use Rattle.rb_world.specs.Kind.{Ends, Membership}
use Rattle.rb_world.specs.Text.{ProcessNaming, VariableNaming}
use Rattle.rb_meaning.specs.Environment.{Stored, frame_of, frame_words, size_of, zeros}
use Rattle.rb_meaning.specs.Groups.{membership_of}
use Rattle.rb_meaning.specs.Meaning.{process_named, variables_named}
use Rattle.rb_scope.specs.Limits.{ProcessWithin}
use Rattle.rb_scope.proofs.EachSite.{all_at}
use Rattle.rb_code.specs.Instructions.Plain.{Part, Procedure}
use Rattle.rb_code.specs.Agreement.StandsFor.{channels_from}
use Rattle.rb_image.specs.Ranges.{IsNatural}
use Rattle.rb_sizes.proofs.Weighing.Weights.{conversations_weight}
use Rattle.rb_sizes.proofs.Spending.Spent.{part_cost, parts_cost, procedures_cost}
use Rattle.rb_sizes.proofs.Spending.ImageSizes.{items_long, items_more}

-- each of a list, by its number
pub from_each : {X : Type 0} (P : X → Type 0) (xs : List X) → ((i : ℕ) (x : X) → slice_get xs i ≡ Some x → P x) → AllByRecursion P xs
from_each P [] f = tt
from_each P (x ∷ xs) f = (f 0 x refl, from_each P xs (λ i y e. f (suc i) y e))

pub each_of : {X : Type 0} (P : X → Type 0) (xs : List X) → All P xs → (i : ℕ) (x : X) → slice_get xs i ≡ Some x → P x
each_of P xs all i x e = all_at P xs i x (recursion_from_All P xs all) e

-- a list has no more items than they have bytes
pub few_items : {X : Type 0} (item : X → List ℕ) → ((x : X) → 1 ≤ length (item x)) → (xs : List X) → length xs ≤ items_long item xs
few_items item some [] = omega arith
few_items item some (x ∷ xs) = let one = some x in let more = items_more item x xs in let rest = few_items item some xs in omega arith

-- one of a sum
pub one_of_sum : {X : Type 0} (f : X → ℕ) (xs : List X) (i : ℕ) (x : X) → slice_get xs i ≡ Some x → f x ≤ sum_by f xs
one_of_sum f [] i x e = absurd (none_some e)
one_of_sum f (y ∷ xs) zero x e = let same = ap f (some_same e) in let first = sum_by-cons f y xs in omega arith
one_of_sum f (y ∷ xs) (suc i) x e = let rest = one_of_sum f xs i x e in let first = sum_by-cons f y xs in omega arith

pub few_of_sum : {X : Type 0} (f : X → ℕ) → ((x : X) → 1 ≤ f x) → (xs : List X) → length xs ≤ sum_by f xs
few_of_sum f some [] = omega arith
few_of_sum f some (x ∷ xs) = let one = some x in let first = sum_by-cons f x xs in let rest = few_of_sum f some xs in omega arith

pub one_part : (parts : List Part) (p : ℕ) (part : Part) → slice_get parts p ≡ Some part → part_cost part ≤ parts_cost parts
one_part [] p part e = absurd (none_some e)
one_part (first ∷ others) zero part e = let same = ap part_cost (some_same e) in omega arith
one_part (first ∷ others) (suc p) part e = let rest = one_part others p part e in omega arith

pub few_procedures : (procedures : List Procedure) → length procedures ≤ procedures_cost procedures
few_procedures [] = omega arith
few_procedures (one ∷ others) = let rest = few_procedures others in omega arith

-- the limits of both editions
pub most_few : (edition : Edition) → (most_processes edition ≤ 64) × (most_words edition ≤ 4096)
most_few First = (omega arith, omega arith)
most_few Second = (omega arith, omega arith)

-- an optional number
pub optional_few : (o : Option ℕ) → ((n : ℕ) → o ≡ Some n → n < 2 ^ 32) → IfSome o IsNatural
optional_few None h = tt
optional_few (Some n) h = h n refl

-- the channels of a process
pub channels_small : (p k : ℕ) (channels : List Ends) → k + length channels ≤ 2 ^ 32
    → (length (channels_from p k channels) ≤ length channels) × AllByRecursion IsNatural (channels_from p k channels)
channels_small p k [] room = (omega arith, tt)
channels_small p k (ends ∷ others) room =
    by (nat_eq ends.sender p || nat_eq ends.receiver p) (channels_small p (k + 1) others (omega arith))
  where
    by : (t : Bool) → (length (channels_from p (k + 1) others) ≤ length others) × AllByRecursion IsNatural (channels_from p (k + 1) others)
        → (length (cond t (k ∷ channels_from p (k + 1) others) (channels_from p (k + 1) others)) ≤ length (ends ∷ others))
        × AllByRecursion IsNatural (cond t (k ∷ channels_from p (k + 1) others) (channels_from p (k + 1) others))
    by true rest = (let few = rest.0 in omega arith, (omega arith, rest.1))
    by false rest = (let few = rest.0 in omega arith, rest.1)

-- where the variables of a process begin
abbrev pub BeginsFew : VariableNaming → Type 0
BeginsFew variable = IsNatural variable.at

variables_begin : (at : ℕ) (variables : List Declaration) → at + frame_words (frame_of variables) ≤ 4096
    → AllByRecursion BeginsFew (variables_named at variables)
variables_begin at [] room = tt
variables_begin at (one ∷ others) room =
    let first = sum_by-cons (λ (stored : Stored). length stored.values) (zeros one) (frame_of others) in
    let long = length-replicate (size_of one.size) (pos 0) in
    (omega arith, variables_begin (at + size_of one.size) others (omega arith))

pub processes_begin : (edition : Edition) (processes : List ProcessDeclaration) → AllByRecursion (ProcessWithin edition) processes
    → AllByRecursion (λ (one : ProcessNaming). AllByRecursion BeginsFew one.variables) (map process_named processes)
processes_begin edition [] all = tt
processes_begin edition (process ∷ others) all =
    let words = all.0.words in
    let most = (most_few edition).1 in
    (variables_begin 0 process.variables (omega arith), processes_begin edition others all.1)

-- the members of conversations
pub members_few : (tree : Tree) (conversations : List ConversationDeclaration) → conversations_weight conversations ≤ 2 ^ 20
    → AllByRecursion (λ (one : Membership). length one.members < 2 ^ 64) (map (membership_of tree) conversations)
members_few tree [] light = tt
members_few tree (one ∷ others) light =
    let many : length (membership_of tree one).members ≡ length one.members = length-map one.members _ in
    (omega arith, members_few tree others (omega arith))
