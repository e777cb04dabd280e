-- What is carried out for a name: the text that has it, or the line that shows the commands.
use Rattle.std.proofs.Common.{◌≡◌, ℕ, nat_eq, Bool, true, false, cond, List, [], ◌∷◌, Option, Some, None, codes, refl, sym, subst, ◌&&◌}
use Rattle.std.specs.List.{find, flat_map, list_all}
use Rattle.std.specs.Cmp.Lexicographic.{pointwise, same_text}
use Rattle.std.specs.Str.{str_eq_ignore_ascii_case}
use Rattle.rb_outside.specs.Outside.{Faults, File, Start, went_well}
use Rattle.rb_reasons.specs.Headlines.{headline}
use Rattle.rb_reasons.specs.Names.{name_of, names}
use Rattle.rb_hall.specs.declared.outcome.Outcome.TheVariants as out
use Rattle.rb_hall.proofs.Behind.{ends_without_memory}
use Rattle.rb_asking.specs.Guides.{view_guides}
use Rattle.rb_asking.specs.Misasked.{version_text}
use Rattle.rb_asking.specs.Views.{View, Explains, Explores, Helps, Lists, Pages, TellsVersion, Traces}
use Rattle.rb_verdict.specs.Judging.{TakesWhileWriting}
use Rattle.rb_verdict.specs.Words.{page_of, trace_of, usage_of}
use Rattle.rb_tell.specs.declared.end.Telling.TheVariants.{Nothing}
use Rattle.rb_show.specs.Entrance.{WishedEnds}
use Rattle.rb_show.specs.Wished.{Carries, Explained, IsWished, Searches, Task, TellsFaults, explain_of, explains_of, help_in, judges_of, request_of, said, usage_line}

-- a text of this name was found
pub explained_by : (found : Option (List ℕ)) (text : List ℕ) → Some (name_of text) ≡ found → Explained found (Carries (explain_of text))
explained_by found text is = subst (λ (o : Option (List ℕ)). Explained o (Carries (explain_of text))) is (text, refl, refl)

-- or none
pub explained_none : (found : Option (List ℕ)) (task : Task) → None ≡ found → task ≡ Carries (usage_of usage_line) → Explained found task
explained_none found task is shows = subst (λ (o : Option (List ℕ)). Explained o task) is shows

-- ---- where memory was wanting to read the words

-- this name is that of a text
abbrev is_its_name : List ℕ → Bool
is_its_name name = pointwise nat_eq (name_of name) name

both : (a b : Bool) → (a && b) ≡ true → (a ≡ true) × (b ≡ true)
both true b e = (refl, e)
both false b e = absurd (cc)

found_or : (hit : Bool) (name : List ℕ) (rest : Option (List ℕ)) → name_of name ≡ name → (task : Task) × Explained rest task
    → (task : Task) × Explained (cond hit (Some name) rest) task
found_or true name rest is later = (Carries (explain_of name), (name, is, refl))
found_or false name rest is later = later

explained_in : (test : List ℕ → Bool) (words : List (List ℕ)) → list_all is_its_name words ≡ true → (task : Task) × Explained (find test words) task
explained_in test [] all = (Carries (usage_of usage_line), refl)
explained_in test (word ∷ words) all =
    let each = both (is_its_name word) (list_all is_its_name words) all in
    found_or (test word) word (find test words) (same_text (name_of word) word (sym each.0)) (explained_in test words each.1)

-- something is carried out whatever is asked for
wished_task : (view : Option View) → (task : Task) × IsWished view task
wished_task None = (Carries (usage_of usage_line), refl)
wished_task (Some (Explains None)) =
    let text = flat_map headline names in
    (Carries (explain_of text), (text, (names, refl, refl), refl))
wished_task (Some (Explains (Some name))) = explained_in (λ word. str_eq_ignore_ascii_case word name) names refl
wished_task (Some (Traces source schedule)) = (Carries (trace_of source schedule), refl)
wished_task (Some (Pages page source schedule)) = (Carries (page_of page source schedule), refl)
wished_task (Some (Explores source number)) = (Searches source number, refl)
wished_task (Some (Lists source)) = (TellsFaults source, refl)
wished_task (Some (Helps name)) = (said (help_in view_guides name), refl)
wished_task (Some TellsVersion) = (Carries (explain_of (version_text (codes "rblview"))), refl)

pub wished_without_memory : (view : Option View) (wrong : List ℕ) (files : Option (List File)) (starts : List Start) (r f : Faults) (w : Option (List ℕ))
    (told : Option (List ℕ)) (faults : Faults)
    → WishedEnds view wrong
    (record { files = files; starts = starts; read_faults = r; written = w; write_faults = went_well f })
    (record { files = files; starts = starts; read_faults = r; written = w; write_faults = f })
    told told faults faults 5 Nothing
wished_without_memory view wrong files starts r f w told faults =
    let (task, is) = wished_task view in
    let request = request_of task in (
      task,
      is,
      record {
        outcome = out.Memory;
        is = refl;
        ends = ends_without_memory (judges_of task) (explains_of request.command) request.files (TakesWhileWriting request.command)
            files starts r f w;
        untouched = λ none. (refl, refl);
        tells = (refl, (refl, refl));
      },
    )
