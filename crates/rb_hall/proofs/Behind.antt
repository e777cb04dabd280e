-- What a call through a buffer comes to at the sink behind it, for every way to judge.
use Rattle.std.proofs.Common.{◌≡◌, ℕ, zero, suc, ◌+◌, ◌≤◌, Bool, false, true, ◌&&◌, List, [], ◌∷◌, ◌++◌, length, take, Option, Some, None, refl, sym, ap, subst, ◌∙◌, inl, inr, arith, length-append}
use Rattle.std.proofs.lemmas.List.{length-take}
use Rattle.std.proofs.Math.Seq.{take-append_seam, take-length}
use Rattle.rb_outside.specs.Outside.{File, Faults, Start, WrotePart, failed_once, went_well, then_written}
use Rattle.rb_outside.proofs.Puts.{failed_after}
use Rattle.rb_hall.specs.declared.outcome.Outcome.{Outcome}
use Rattle.rb_hall.specs.declared.outcome.Outcome.TheVariants as out
use Rattle.rb_hall.specs.Judgement.{Explaining, Judging, Wants, line_of}
use Rattle.rb_hall.specs.Answers.{Scene, Answers, WritesAll, WritesPart, WritesNothing, WritesFront, WouldWrite, its_text, its_line}
use Rattle.rb_hall.specs.Complete.{IsUnhindered, EndsAs, IsComplete}
use Rattle.rb_hall.specs.Ending.{IsUnwritten, SeenBehind, EndsBehind, Finishes}
use Rattle.rb_hall.proofs.Complete.{completed}
use Rattle.rb_hall.proofs.Driving.{short_at_once}

-- the second of two that both hold
second_holds : (a b : Bool) → (a && b) ≡ true → b ≡ true
second_holds true b e = e
second_holds false b e = absurd (cc)

-- a front of a front
take-take : (a b : ℕ) (xs : List ℕ) → a ≤ b → take a (take b xs) ≡ take a xs
take-take zero b xs le = refl
take-take (suc a) zero xs le = absurd (omega (arith, le))
take-take (suc a) (suc b) [] le = refl
take-take (suc a) (suc b) (x ∷ xs) le = ap (λ (ys : List ℕ). x ∷ ys) (take-take a b xs (omega (arith, le)))

-- a text whose end still waits is a front of what was written
front_written : (w rest bytes : List ℕ) (k : ℕ) → k ≤ length bytes → w ++ rest ≡ take k bytes
    → (length w ≤ length bytes) × (w ≡ take (length w) bytes)
front_written w rest bytes k few e =
    let both : length w + length rest ≡ length (take k bytes) = sym (length-append w rest) ∙ ap length e in
    let size = length-take k bytes in
    let within : length w ≤ k = omega arith in (
      omega arith,
      sym (take-append_seam w rest) ∙ ap (take (length w)) e ∙ take-take (length w) k bytes within,
    )

none_some : (x : List ℕ) (P : Type 0) → None ≡ Some x → P
none_some x P e = absurd (cc)

-- where a front of these bytes was written to the buffer, a front of them reached the sink
part_behind : (w0 told w : Option (List ℕ)) (rest bytes : List ℕ) → IsUnwritten w0 → WrotePart w0 told bytes
    → told ≡ then_written w rest → WrotePart w0 w bytes
part_behind None told None rest bytes none part waits = (0, omega arith, refl)
part_behind None told (Some w) rest bytes none (k, few, e) waits = none_some (w ++ rest) (WrotePart None (Some w) bytes) (sym e ∙ waits)
part_behind (Some x) told None rest bytes none (k, few, e) waits = none_some (x ++ take k bytes) (WrotePart (Some x) None bytes) (sym waits ∙ e)
part_behind (Some x) told (Some w) rest bytes none (k, few, e) waits =
    let whole : Some (w ++ rest) ≡ Some (x ++ take k bytes) = sym waits ∙ e in
    let inside : w ++ rest ≡ x ++ take k bytes = cc in
    let front = front_written w rest bytes k few (inside ∙ ap (λ (xs : List ℕ). xs ++ take k bytes) none) in
    (length w, front.0, ap (λ (xs : List ℕ). Some xs) (front.1 ∙ ap (λ (xs : List ℕ). xs ++ take (length w) bytes) (sym none)))

-- all the bytes are a front of them
all_is_part : (w0 told : Option (List ℕ)) (bytes : List ℕ) → told ≡ then_written w0 bytes → WrotePart w0 told bytes
all_is_part w0 told bytes e = (length bytes, omega arith, e ∙ ap (then_written w0) (sym (take-length bytes)))

no_end : (w rest : List ℕ) → w ++ rest ≡ [] → w ≡ []
no_end [] rest e = refl
no_end (x ∷ w) rest e = absurd (cc)

-- where nothing was written to the buffer, nothing reached the sink
nothing_behind : (w0 told w : Option (List ℕ)) (rest : List ℕ) → IsUnwritten w0 → told ≡ w0 → told ≡ then_written w rest → w ≡ w0
nothing_behind None told None rest none same waits = refl
nothing_behind None told (Some w) rest none same waits = none_some (w ++ rest) (Some w ≡ None) (sym same ∙ waits)
nothing_behind (Some x) told None rest none same waits = none_some x (None ≡ Some x) (sym waits ∙ same)
nothing_behind (Some x) told (Some w) rest none same waits =
    let whole : Some (w ++ rest) ≡ Some x = sym waits ∙ same in
    let inside : w ++ rest ≡ x = cc in
    ap (λ (xs : List ℕ). Some xs) (no_end w rest (inside ∙ none) ∙ sym none)

-- the call as a whole ends as judged where it is seen to end so
complete_behind : {W : Type 0} (judges : Judging) (explains : Explaining W) (wanted : List Wants) (takes : Type 0) (old told new : Scene)
    (outcome : Outcome W)
    → Answers judges explains wanted takes old told outcome → SeenBehind told new → IsComplete judges wanted old new outcome
complete_behind judges explains wanted takes old told new outcome answers seen files before texts free =
    let same : told.write_faults.count ≡ new.write_faults.count = sym seen.write_faults in
    let reads : told.read_faults.count ≡ new.read_faults.count = sym (ap (λ f. f.count) seen.read_faults) in
    let inside : IsUnhindered wanted old told files before texts = record {
      files_told = free.files_told;
      bytes_told = free.bytes_told;
      stored = free.stored;
      no_read_fault = λ rose. free.no_read_fault (omega (arith, rose, reads));
      no_write_fault = λ rose. free.no_write_fault (omega (arith, rose, same));
    } in
    elim (completed judges explains wanted takes old told outcome answers files before texts inside) [
      | inl wanting ↦ inl wanting
      | inr ends ↦ inr
          (record {
            judgement = ends.judgement;
            judged = ends.judged;
            ended =
                subst (λ w. EndsAs ends.judgement before w outcome) (sym seen.written) ends.ended;
          })
    ]

-- the scene at the sink behind the buffer, where the buffer's own is this
seen_last : (files : Option (List File)) (starts : List Start) (reads : Faults) (w : Option (List ℕ)) (failed : Bool) (f : Faults) →
    SeenBehind (record {
      files = files;
      starts = starts;
      read_faults = reads;
      written = w;
      write_faults =
          record { count = f.count; failed_last = failed && f.failed_last };
    })
    (record { files = files; starts = starts; read_faults = reads; written = w; write_faults = f })
seen_last files starts reads w failed f = record {
  files = refl;
  starts = refl;
  read_faults = refl;
  written = refl;
  write_faults = refl;
  failed_last = second_holds failed f.failed_last;
}

-- the same, where no write failed
seen_well : (files : Option (List File)) (starts : List Start) (reads : Faults) (w : Option (List ℕ)) (n : ℕ) (f : Faults) → f.count ≡ n →
    SeenBehind (record { files = files; starts = starts; read_faults = reads; written = w; write_faults = record { count = n; failed_last = false } })
    (record { files = files; starts = starts; read_faults = reads; written = w; write_faults = f })
seen_well files starts reads w n f same = record {
  files = refl;
  starts = refl;
  read_faults = refl;
  written = refl;
  write_faults = same;
  failed_last = λ e. absurd (cc);
}

seen_same : (s : Scene) → SeenBehind s s
seen_same s = record {
  files = refl;
  starts = refl;
  read_faults = refl;
  written = refl;
  write_faults = refl;
  failed_last = λ e. e;
}

-- an answer, as it is seen behind the buffer
abbrev pub Seen : {W : Type 0} → Judging → Explaining W → List Wants → Type 0 → Scene → Scene → Outcome W → Type 0
Seen judges explains wanted takes old new outcome = (told : Scene) × Answers judges explains wanted takes old told outcome × SeenBehind told new

module _ {W : Type 0} (judges : Judging) (explains : Explaining W) (wanted : List Wants) (takes : Type 0)
    (files0 : Option (List File)) (starts0 : List Start) (r0 : Faults) (w0 : Option (List ℕ)) (f0 : Faults) (unwritten : IsUnwritten w0)
    (files1 : Option (List File)) (starts1 : List Start) (r1 : Faults) (told w1 w2 : Option (List ℕ)) (rest1 rest2 : List ℕ)
    (failed : Bool) (s1 s2 : Faults)
    (before : told ≡ then_written w1 rest1) (after : told ≡ then_written w2 rest2) where
  abbrev old : Scene
  old = record { files = files0; starts = starts0; read_faults = r0; written = w0; write_faults = went_well f0 }

  abbrev mid : Scene
  mid = record {
    files = files1;
    starts = starts1;
    read_faults = r1;
    written = told;
    write_faults =
        record { count = s1.count; failed_last = failed && s1.failed_last };
  }

  abbrev new : Scene
  new = record { files = files1; starts = starts1; read_faults = r1; written = w2; write_faults = s2 }

  -- what was seen at the buffer, with the sink's bytes
  abbrev at_sink : Faults → Scene
  at_sink f = record { files = files1; starts = starts1; read_faults = r1; written = w2; write_faults = f }

  abbrev well : Faults
  well = record { count = s1.count; failed_last = false }

  -- everything was passed on
  passed_all : (bytes : List ℕ) → WritesAll bytes old mid → w2 ≡ told → WritesAll bytes old (at_sink well)
  passed_all bytes all same = record { written = same ∙ all.written; well = all.well }

  -- the last put was a fault
  passed_part : (bytes : List ℕ) → WritesAll bytes old mid → s2 ≡ failed_once s1 → WritesPart bytes old new
  passed_part bytes all fault = record {
    written = part_behind w0 told w2 rest2 bytes unwritten (all_is_part w0 told bytes all.written) after;
    failed = failed_after (went_well f0) s1 s2 all.well fault;
  }

  -- a write failed before
  failed_part : (bytes : List ℕ) → WritesPart bytes old mid → WritesPart bytes old (at_sink mid.write_faults)
  failed_part bytes part = record { written = part_behind w0 told w2 rest2 bytes unwritten part.written after; failed = part.failed }

  -- nothing was written
  passed_none : WritesNothing old mid → WritesNothing old (at_sink mid.write_faults)
  passed_none none = record { written = nothing_behind w0 told w2 rest2 unwritten none.written after; faults = none.faults }

  -- the sink is as it was
  seen_still : s2 ≡ s1 → SeenBehind (at_sink mid.write_faults) new
  seen_still same =
      let with_faults : Faults → Scene = λ f. record { files = files1; starts = starts1; read_faults = r1; written = w2; write_faults = f } in
      subst (λ f. SeenBehind (at_sink mid.write_faults) (with_faults f)) (sym same) (seen_last files1 starts1 r1 w2 failed s1)

  -- what would have been written does not look at what was
  would : (f : Faults) (bytes : List ℕ) → WouldWrite judges wanted old mid bytes → WouldWrite judges wanted old (at_sink f) bytes
  would f bytes (its_text ended) = its_text ended
  would f bytes (its_line fault ended e) = its_line fault ended e

  -- a front of a text was written
  passed_front : WritesFront judges wanted old mid → WritesFront judges wanted old (at_sink mid.write_faults)
  passed_front front = record {
    text = front.text;
    ended = front.ended;
    front = part_behind w0 told w2 rest2 front.text unwritten front.front after;
    well = front.well;
  }

  behind : (s t : Outcome W) → Answers judges explains wanted takes old mid s → Finishes s t told w1 w2 s1 s2 → Seen judges explains wanted takes old new t
  behind out.Done t (text, ended, reads, all) (inl (is, same, count)) =
      subst (Seen judges explains wanted takes old new) (sym is)
      (at_sink well, (text, ended, reads, passed_all text all same), seen_well files1 starts1 r1 w2 s1.count s2 count)
  behind out.Done t (text, ended, reads, all) (inr (is, fault)) =
      subst (Seen judges explains wanted takes old new) (sym is)
      (new, (text, its_text ended, reads, passed_part text all fault), seen_same new)
  behind (out.Refused refusal) t (refuses, reads, all) (inl (is, same, count)) =
      subst (Seen judges explains wanted takes old new) (sym is)
      (at_sink well, (refuses, reads, passed_all (line_of refusal.fault) all same), seen_well files1 starts1 r1 w2 s1.count s2 count)
  behind (out.Refused refusal) t (refuses, reads, all) (inr (is, fault)) =
      subst (Seen judges explains wanted takes old new) (sym is) (
        new,
        (
          line_of refusal.fault,
          its_line refusal.fault (record { texts = refuses.texts; rest = refuses.rest; read = refuses.read; judged = refuses.judged }) refl,
          reads,
          passed_part (line_of refusal.fault) all fault,
        ),
        seen_same new,
      )
  behind (out.ReadFault number) t (fails, none) (is, same, still) =
      subst (Seen judges explains wanted takes old new) (sym is) (at_sink mid.write_faults, (fails, passed_none none), seen_still still)
  behind out.WriteFault t (bytes, writes, reads, part) (is, same, still) =
      subst (Seen judges explains wanted takes old new) (sym is)
      (at_sink mid.write_faults, (bytes, would mid.write_faults bytes writes, reads, failed_part bytes part), seen_still still)
  behind out.Memory t (ran, reads, inl none) (is, same, still) =
      subst (Seen judges explains wanted takes old new) (sym is)
      (at_sink mid.write_faults, (ran, reads, inl (passed_none none)), seen_still still)
  behind out.Memory t (ran, reads, inr (takes_memory, front)) (is, same, still) =
      subst (Seen judges explains wanted takes old new) (sym is)
      (at_sink mid.write_faults, (ran, reads, inr (takes_memory, passed_front front)), seen_still still)

  pub ends_behind : (s t : Outcome W) → Answers judges explains wanted takes old mid s → Finishes s t told w1 w2 s1 s2 → EndsBehind judges explains wanted takes old new t
  ends_behind s t h f =
      let seen = behind s t h f in
      record { told = seen.0; answers = seen.1; seen = seen.2; complete = complete_behind judges explains wanted takes old seen.0 new t seen.1 seen.2 }

-- memory was wanting before anything was done
pub ends_without_memory : {W : Type 0} (judges : Judging) (explains : Explaining W) (wanted : List Wants) (takes : Type 0) (files : Option (List File)) (starts : List Start) (r f : Faults)
    (w : Option (List ℕ)) →
    EndsBehind judges explains wanted takes (record { files = files; starts = starts; read_faults = r; written = w; write_faults = went_well f })
    (record { files = files; starts = starts; read_faults = r; written = w; write_faults = f }) out.Memory
ends_without_memory judges explains wanted takes files starts r f w =
    let old : Scene = record { files = files; starts = starts; read_faults = r; written = w; write_faults = went_well f } in
    let seen : SeenBehind old (record { files = files; starts = starts; read_faults = r; written = w; write_faults = f }) =
    seen_well files starts r w f.count f refl in
    let answers : Answers judges explains wanted takes old old out.Memory = (short_at_once files judges wanted starts, refl, inl (record { written = refl; faults = refl })) in
    record {
      told = old;
      answers = answers;
      seen = seen;
      complete = complete_behind judges explains wanted takes old old
          (record { files = files; starts = starts; read_faults = r; written = w; write_faults = f }) out.Memory answers seen;
    }

-- a call that begins with an empty buffer begins with its sink
pub begins_empty : {W : Type 0} (judges : Judging) (explains : Explaining W) (wanted : List Wants) (takes : Type 0) (files : Option (List File)) (starts : List Start) (r fb f0 : Faults)
    (wb w0 : Option (List ℕ)) (mid : Scene) (s : Outcome W)
    → wb ≡ w0 → fb ≡ went_well f0 →
    Answers judges explains wanted takes (record { files = files; starts = starts; read_faults = r; written = wb; write_faults = fb }) mid s →
    Answers judges explains wanted takes (record { files = files; starts = starts; read_faults = r; written = w0; write_faults = went_well f0 }) mid s
begins_empty judges explains wanted takes files starts r fb f0 wb w0 mid s bytes faults h =
    subst (λ w. Answers judges explains wanted takes
    (record { files = files; starts = starts; read_faults = r; written = w; write_faults = went_well f0 }) mid s) bytes
    (subst (λ f. Answers judges explains wanted takes (record { files = files; starts = starts; read_faults = r; written = wb; write_faults = f }) mid s) faults h)
