use Rattle.std.proofs.Common.{◌≡◌, ℕ, ◌<◌, ◌^◌, List, ◌++◌, length, map, ap, sym, subst, ◌∙◌, append_assoc, arith}
use Rattle.std.specs.Prelude.{OnOk}
use Rattle.std.specs.List.{zip}
use Rattle.std.proofs.lemmas.Result.{on_ok_weaker}
use Rattle.rb_base.specs.declared.names.Group.{Group}
use Rattle.rb_outside.proofs.Puts.{puts_both, puts_same, puts_stopped_at}
use Rattle.rb_world.specs.Kind.{Membership}
use Rattle.rb_code.specs.Instructions.Plain.{code as plain}
use Rattle.rb_nest.specs.Groups.{membership}
use Rattle.rb_image.specs.Image.{block as block_bytes, channel as channel_bytes, edition_number, group, image_of, magic, process as process_bytes, process_names}
use Rattle.rb_image.specs.Instrs.{instr}
use Rattle.rb_image.specs.Pieces.{list, natural, text}
use Rattle.rb_image.specs.Ranges.{Are}
use Rattle.rb_image.proofs.Found.{beside, counted, in_ranges}
use Rattle.rb_image.proofs.Parts.{IsCounted}
use Rattle.rb_code.specs.Instructions.Plain.{Code}
use Rattle.rb_image.proofs.write.write_image.Goals as goal

-- the lists of a code
abbrev lists : Code → List ℕ
lists c =
    list instr c.instrs
    ++ (list process_bytes c.processes
    ++ (list block_bytes c.blocks
    ++ (list channel_bytes c.channels
    ++ (list text c.texts ++ (list process_names c.names.processes ++ (list text c.names.channels ++ list text c.names.conversations))))))

abbrev start : Code → List ℕ
start c = magic ++ natural (edition_number c.edition)

regrouped : (m e l g : List ℕ) → (m ++ e) ++ (l ++ g) ≡ m ++ ((e ++ l) ++ g)
regrouped m e l g = simp append_assoc

whole_is : (c : Code) (groups : List Group) →
    start c ++ (lists c ++ list group (map counted groups)) ≡ image_of c (map membership groups) (map (λ (one : Group). one.alternates) groups)
whole_is c groups =
    ap (λ (xs : List (Membership × ℕ)). start c ++ (lists c ++ list group xs)) (sym (beside groups))
    ∙ regrouped magic (natural (edition_number c.edition)) (lists c)
    (list group (zip (map membership groups) (map (λ (one : Group). one.alternates) groups)))

pub returns-in_err-put_edition-clause-text : goal.returns-in_err-put_edition-clause-text
returns-in_err-put_edition-clause-text g c =
    let all = plain c.args.code.now in
    let groups = c.args.nested.now.conversations.items in
    puts_same _ _ _ _ _ _ _ (whole_is all groups)
    (puts_stopped_at (start all) (lists all ++ list group (map counted groups)) _ _ _ _ _ c.from_residual.result c.from_residual.ensures.0
    c.in_err-put_edition.ensures)

pub returns-in_err-put_lists-clause-text : goal.returns-in_err-put_lists-clause-text
returns-in_err-put_lists-clause-text g c =
    let all = plain c.args.code.now in
    let groups = c.args.nested.now.conversations.items in
    let res = c.from_residual-in_err-put_lists in
    puts_same _ _ _ _ _ _ _ (whole_is all groups)
    (puts_both (start all) (lists all ++ list group (map counted groups)) _ _ _ _ _ _ _ _ c.in_ok-put_edition.ensures
    (puts_stopped_at (lists all) (list group (map counted groups)) _ _ _ _ _ res.result res.ensures.0 c.in_err-put_lists.ensures.text))

pub returns-clause-text : goal.returns-clause-text
returns-clause-text g c =
    let all = plain c.args.code.now in
    let groups = c.args.nested.now.conversations.items in
    let written = puts_same _ _ _ _ _ _ _ (ap (λ (xs : List Group). list group (map counted xs)) c.deref.ensures.value) c.put_list.ensures.text in
    puts_same _ _ _ _ _ _ _ (whole_is all groups)
    (puts_both (start all) (lists all ++ list group (map counted groups)) _ _ _ _ _ _ _ _ c.in_ok-put_edition.ensures
    (puts_both (lists all) (list group (map counted groups)) _ _ _ _ _ _ _ _ c.in_ok-put_lists.ensures.text written))

pub returns-clause-ranges : goal.returns-clause-ranges
returns-clause-ranges g c =
    let all = plain c.args.code.now in
    let groups = c.args.nested.now.conversations.items in
    let few : length groups < 2 ^ 32 = omega (arith, ap length c.deref.ensures.value, c.deref.ensures.len, c.args.nested.now.few) in
    let each = subst (λ (xs : List Group). OnOk c.put_list.result (Are IsCounted (map counted xs))) c.deref.ensures.value c.put_list.ensures.ranges in
    on_ok_weaker c.put_list.result (λ (fits : Are IsCounted (map counted groups)). in_ranges all groups c.in_ok-put_lists.ensures.ranges few fits.1) each
