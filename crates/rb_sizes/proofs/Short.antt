-- An image is at most sixteen times as long as its source.
use Rattle.std.proofs.Common.{◌≡◌, ℕ, ◌+◌, ◌*◌, ◌≤◌, List, ◌++◌, length, sum_by, zip, ap, arith, length-append}
use Rattle.std.proofs.lemmas.List.{length-map}
use Rattle.rb_syntax.specs.Numbered.{IsNumbered, blocks_in_processes}
use Rattle.rb_syntax.specs.Tree.{Tree}
use Rattle.rb_world.specs.Kind.{Ends, Membership}
use Rattle.rb_world.specs.Text.{Naming}
use Rattle.rb_meaning.specs.Groups.{channels_of, ends_of, groups_of}
use Rattle.rb_scope.specs.declared.slot.Slot.{Slot}
use Rattle.rb_code.specs.Instructions.Plain.{Code}
use Rattle.rb_code.specs.Agreement.StandsFor.{StandsFor}
use Rattle.rb_image.specs.Pieces.{list, text}
use Rattle.rb_image.specs.Instrs.{instr}
use Rattle.rb_image.specs.Image.{block, channel, code, edition_number, group, image_of, magic, process, process_names}
use Rattle.rb_judge.proofs.BlocksInOrder.{parsed_are_numbered}
use Rattle.rb_sizes.specs.Laws.{ImagesAreShort}
use Rattle.rb_sizes.proofs.Weighing.Derived.{weighs_no_more}
use Rattle.rb_sizes.proofs.Weighing.Weights.{weight}
use Rattle.rb_sizes.proofs.Spending.Spent.{block_cost, cost, listed, listed_all, listed_none, parts_cost, spent_all, spent_none}
use Rattle.rb_sizes.proofs.Spending.ProcessCosts.{processes_bound, processes_take, two_ends}
use Rattle.rb_sizes.proofs.Spending.ImageSizes.{behind_long, blocks_long, channels_long, code_cost, items_long, list_behind, list_long, processes_long}
use Rattle.rb_sizes.proofs.Spending.NameSizes.{channels_fit, conversations_fit, groups_fit, processes_fit}

-- how long an image is
pub image_long : (c : Code) (groups : List Membership) (counts : List ℕ) → length (image_of c groups counts)
    ≡ 84 + items_long instr c.instrs + items_long process c.processes + items_long block c.blocks + items_long channel c.channels
    + items_long text c.texts + items_long process_names c.names.processes + items_long text c.names.channels
    + items_long text c.names.conversations + items_long group (zip groups counts)
image_long c groups counts =
    let k1 = list text c.names.conversations in
    let k2 = list text c.names.channels ++ k1 in
    let k3 = list process_names c.names.processes ++ k2 in
    let k4 = list text c.texts ++ k3 in
    let k5 = list channel c.channels ++ k4 in
    let k6 = list block c.blocks ++ k5 in
    let k7 = list process c.processes ++ k6 in
    let k8 = list instr c.instrs ++ k7 in
    let end = list group (zip groups counts) in
    let e1 = list_long text c.names.conversations in
    let e2 = list_behind text c.names.channels k1 in
    let e3 = list_behind process_names c.names.processes k2 in
    let e4 = list_behind text c.texts k3 in
    let e5 = list_behind channel c.channels k4 in
    let e6 = list_behind block c.blocks k5 in
    let e7 = list_behind process c.processes k6 in
    let e8 = list_behind instr c.instrs k7 in
    let e9 = behind_long (edition_number c.edition) k8 in
    let e10 = list_long group (zip groups counts) in
    let e11 = length-append (code c) end in
    let e12 = length-append magic (code c ++ end) in
    omega arith

-- What the instructions, the processes and the recovery blocks of a code that stands for a tree take.
code_fits : (tree : Tree) (slots : List Slot) (c : Code) → IsNumbered tree → StandsFor tree slots c
    → parts_cost c.processes + sum_by (cost c) c.instrs + sum_by block_cost c.blocks
    ≤ processes_bound tree.processes + 16 * length tree.channels
code_fits tree slots c numbered stands =
    let taken = (processes_take {c = c} tree slots 0 tree.processes c.processes 0 numbered.processes).fits 0 (length c.instrs) stands.instrs_are in
    let start = spent_none c in
    let end = spent_all c in
    let first = listed_none c in
    let count : 0 + blocks_in_processes tree.processes ≡ length c.blocks = (
    let e = stands.one_block_each in let f = numbered.blocks in omega arith
    ) in
    let last = ap (listed c) count in
    let whole = listed_all c in
    let two = two_ends 0 tree.processes (channels_of tree) in
    let many : length (channels_of tree) ≡ length tree.channels = length-map tree.channels (ends_of tree) in
    omega arith

-- the recovery blocks
pub blocks_fit : (tree : Tree) (slots : List Slot) (c : Code) → IsNumbered tree → StandsFor tree slots c
    → sum_by block_cost c.blocks ≤ 16 * weight tree
blocks_fit tree slots c numbered stands =
    let all = code_fits tree slots c numbered stands in
    let p = processes_fit tree.processes in
    let q = channels_fit tree.channels in
    omega arith

-- The image of whatever code stands for a tree, with its conversations and any numbers beside them.
pub image_fits : (tree : Tree) (slots : List Slot) (c : Code) (counts : List ℕ) → IsNumbered tree → StandsFor tree slots c
    → length (image_of c (groups_of tree) counts) ≤ 16 * weight tree
image_fits tree slots c counts numbered stands =
    let all = image_long c (groups_of tree) counts in
    let taken = code_fits tree slots c numbered stands in
    let code_is = code_cost c stands.one_text_each in
    let blocks = blocks_long c.blocks in
    let processes = processes_long c.processes in
    let many : length (channels_of tree) ≡ length tree.channels = length-map tree.channels (ends_of tree) in
    let channels = channels_long c.channels in
    let channels_are = ap (λ (channels : List Ends). length channels) stands.channels_are in
    let names_1 = ap (λ (names : Naming). items_long process_names names.processes) stands.names_are in
    let names_2 = ap (λ (names : Naming). items_long text names.channels) stands.names_are in
    let names_3 = ap (λ (names : Naming). items_long text names.conversations) stands.names_are in
    let p = processes_fit tree.processes in
    let q = channels_fit tree.channels in
    let r = conversations_fit tree.conversations in
    let g = groups_fit tree tree.conversations counts in
    omega arith

pub images_are_short : ImagesAreShort
images_are_short source tree slots c counts short_source accepted stands =
    let short = image_fits tree slots c counts (parsed_are_numbered source tree accepted.derived) stands in
    let light = weighs_no_more source tree short_source accepted.derived in
    omega arith
