-- The laws of whole runs, shown of the definition.
use Rattle.std.proofs.Common.{◌≡◌, ℕ, ◌+◌, ◌-◌, ◌<◌, ◌≤◌, Bool, true, false, cond, ◌&&◌, eqb, leb, List, [], length, get_or, sym, refl, ap, ◌∙◌, arith}
use Rattle.std.proofs.lemmas.List.{get_or-map}
use Rattle.std.proofs.lemmas.Bool.{leb-true, le-leb, and_parts, and_from}
use Rattle.fault.specs.Bounds.{limit_fits}
use Rattle.fault.specs.Refusals.{Refusal, refused}
use Rattle.scalar.specs.Ops.{Ops, RealOps}
use Rattle.rows.specs.Turns.{Turn, turned_all}
use Rattle.rows.specs.Keepers.{Kept, Answer, given, denied}
use Rattle.eigen.specs.Turnings.{kept_all}
use Rattle.eigen.specs.Iterate.{settled, not_settled, iterate}
use Rattle.eigen.specs.Runs.{Run, searched, pass_of, run_by, run_of}
use Rattle.eigen.specs.Settles.{Task, unlawful, check_of, check_task, settle_by, settle_of}
use Rattle.eigen.specs.Laws.{Start, Finish, finish_of, task_of, IsRun, Same, AnyKeeper, AnyLimit}
use Rattle.eigen.proofs.Limits.{any_limit, counted}
use Rattle.eigen.proofs.Turned.{turn_none}

same_task : {R : Type 0} (a b : Task R) → a.side ≡ b.side → a.largest ≡ b.largest → a.values ≡ b.values → a.offs ≡ b.offs →
    a.tolerance ≡ b.tolerance → a.width ≡ b.width → a ≡ b
same_task {R} a b p q r s t u =
    ap (λ x. record { side = x; largest = a.largest; values = a.values; offs = a.offs; tolerance = a.tolerance; width = a.width }) p
    ∙ ap (λ x. record { side = b.side; largest = x; values = a.values; offs = a.offs; tolerance = a.tolerance; width = a.width }) q
    ∙ ap (λ x. record { side = b.side; largest = b.largest; values = x; offs = a.offs; tolerance = a.tolerance; width = a.width }) r
    ∙ ap (λ x. record { side = b.side; largest = b.largest; values = b.values; offs = x; tolerance = a.tolerance; width = a.width }) s
    ∙ ap (λ x. record { side = b.side; largest = b.largest; values = b.values; offs = b.offs; tolerance = x; width = a.width }) t
    ∙ ap (λ x. record { side = b.side; largest = b.largest; values = b.values; offs = b.offs; tolerance = b.tolerance; width = x }) u

module _ {C R : Type 0} (ops : Ops C R) (rops : Ops R R) (real : RealOps R) where
  -- the row at a place, turned
  turned_row : (ts : List (Turn R)) (k : Kept C) (i : ℕ) → i < length k.rows →
      get_or (kept_all ops ts k).rows i [] ≡ turned_all ops ts (get_or k.rows i [])
  turned_row ts k i h = get_or-map (turned_all ops ts) k.rows i [] [] h

  pub any_keeper : (s : Start C R) (limit : ℕ) (f : Finish C R) → IsRun ops rops real s limit f → AnyKeeper ops rops real s limit f
  unfolding AnyKeeper
  any_keeper s limit f r t g like q =
      let e : task_of s ≡ task_of t = same_task (task_of s) (task_of t) like.side like.largest like.values like.offs like.tolerance
      (like.first ∙ like.side ∙ sym like.second) in
      let run : settle_of rops real (task_of s) limit ≡ settle_of rops real (task_of t) limit = ap
      (λ (k : Task R). settle_of rops real k limit) e in
      record {
        answer = r.answer ∙ ap (λ (x : Run R). x.answer) run ∙ sym q.answer;
        values = r.values ∙ ap (λ (x : Run R). x.values) run ∙ sym q.values;
        offs = r.offs ∙ ap (λ (x : Run R). x.offs) run ∙ sym q.offs;
        rows = λ i j hi hj h.
            ap (λ (k : Kept C). get_or k.rows i []) r.kept
            ∙ turned_row (settle_of rops real (task_of s) limit).turns s.kept i hi
            ∙ ap (λ (x : Run R). turned_all ops x.turns (get_or s.kept.rows i [])) run
            ∙ ap (turned_all ops (settle_of rops real (task_of t) limit).turns) h
            ∙ sym (turned_row (settle_of rops real (task_of t) limit).turns t.kept j hj)
            ∙ sym (ap (λ (k : Kept C). get_or k.rows j []) q.kept);
      }

abbrev free : Answer (Unit {0})
free = given tt

never_free : (why : Refusal) → denied why ≡ free → ⊥
never_free why e = let z : ◌≡◌ {A = ℕ} 0 1 = cc in omega arith

-- the refusals in their order, by whether lengths, tolerance, limit and width are as they should be
abbrev check_by : Bool → Bool → Bool → Bool → Answer (Unit {0})
check_by lengths unlawful allowed wide =
    cond lengths (cond unlawful (denied (refused 4 [])) (cond allowed (cond wide free (denied (refused 6 []))) (denied (refused 5 []))))
    (denied (refused 2 []))

check_other : (a b c d : Bool) → check_by a b c d ≡ free → check_by a b true d ≡ free
check_other true true c d e = absurd (never_free _ e)
check_other true false true d e = e
check_other true false false d e = absurd (never_free _ e)
check_other false b c d e = absurd (never_free _ e)

check_allowed : (a b c d : Bool) → check_by a b c d ≡ free → c ≡ true
check_allowed true true c d e = absurd (never_free _ e)
check_allowed true false true d e = refl
check_allowed true false false d e = absurd (never_free _ e)
check_allowed false b c d e = absurd (never_free _ e)

-- a limit below one that fits does so, unless it is 0
lower_fits : (n m : ℕ) → limit_fits n ≡ true → 1 ≤ m → m ≤ n → limit_fits m ≡ true
lower_fits n m e h k =
    let top : n ≤ 1000000 = leb-true n 1000000 (and_parts (leb 1 n) (leb n 1000000) e).1 in
    and_from (leb 1 m) (leb m 1000000) (le-leb 1 m h) (le-leb m 1000000 (omega arith))

module _ {R : Type 0} (ops : Ops R R) (real : RealOps R) where
  -- a run that is settled was not refused before it began
  begun : (t : Task R) (limit passes : ℕ) (a : Answer (Unit {0})) → (settle_by ops real t limit a).answer ≡ settled passes → a ≡ free
  begun t limit passes (given tt) e = refl
  begun t limit passes (denied why) e = let z : ◌≡◌ {A = ℕ} 0 1 = cc in let no : ⊥ = omega arith in absurd no

  -- nor is it refused at another limit that is allowed
  other_limit : (v o : ℕ) (tolerance : R) (n m w side : ℕ) → limit_fits m ≡ true → check_of ops real v o tolerance n w side ≡ free →
      check_of ops real v o tolerance m w side ≡ free
  other_limit v o tolerance n m w side ok e =
      ap (λ (b : Bool). check_by (eqb v side && eqb (o + 1) side) (unlawful ops real tolerance) b (eqb w side)) ok
      ∙ check_other (eqb v side && eqb (o + 1) side) (unlawful ops real tolerance) (limit_fits n) (eqb w side) e

  pub task_limit : (t : Task R) (n m passes : ℕ) → (settle_of ops real t n).answer ≡ settled passes →
      (limit_fits m ≡ true → passes < m → settle_of ops real t m ≡ settle_of ops real t n)
      × (1 ≤ m → m ≤ passes → (settle_of ops real t m).answer ≡ not_settled m)
  unfolding settle_of
  task_limit t n m passes e =
      let at_n : check_task ops real t n ≡ free = begun t n passes (check_task ops real t n) e in
      let at_m : limit_fits m ≡ true → check_task ops real t m ≡ free =
      λ ok. other_limit (length t.values) (length t.offs) t.tolerance n m t.width t.side ok at_n in
      let start = searched ops real t.tolerance t.values t.offs (t.side - 1) in
      let step = pass_of ops real t.tolerance in
      let settles : (iterate step n 0 start).answer ≡ settled passes =
      sym (ap (λ (a : Answer (Unit {0})). (settle_by ops real t n a).answer) at_n) ∙ e in
      let other = any_limit step n m 0 passes start settles in
      let below : passes < 0 + n = (counted step n 0 passes start settles).1 in
      let ok_n : limit_fits n ≡ true = check_allowed (eqb (length t.values) t.side && eqb (length t.offs + 1) t.side)
      (unlawful ops real t.tolerance) (limit_fits n) (eqb t.width t.side) at_n in
      let z : 0 + m ≡ m = omega arith in (
        λ ok h. ap (settle_by ops real t m) (at_m ok) ∙ ap (run_by ops t.largest) (other.0 (omega arith))
            ∙ sym (ap (settle_by ops real t n) at_n),
        λ least h.
            ap (λ (a : Answer (Unit {0})). (settle_by ops real t m a).answer) (at_m (lower_fits n m ok_n least (omega arith)))
            ∙ other.1 (omega arith) ∙ ap not_settled z,
      )

module _ {C R : Type 0} (ops : Ops C R) (rops : Ops R R) (real : RealOps R) where
  same_kept : (a b : Kept C) → a.width ≡ b.width → a.rows ≡ b.rows → a ≡ b
  same_kept a b p q =
      ap (λ x. record { width = x; rows = a.rows }) p ∙ ap (λ x. record { width = b.width; rows = x }) q

  pub limits : (s : Start C R) (n : ℕ) (f : Finish C R) → IsRun ops rops real s n f → AnyLimit ops rops real s f
  unfolding AnyLimit
  limits s n f r passes m t g e like q =
      let k : task_of s ≡ task_of t = same_task (task_of s) (task_of t) like.side like.largest like.values like.offs like.tolerance
      like.width in
      let kept : s.kept ≡ t.kept = same_kept s.kept t.kept like.width like.rows in
      let law = task_limit rops real (task_of s) n m passes (sym r.answer ∙ e) in
      let moved : settle_of rops real (task_of t) m ≡ settle_of rops real (task_of s) m = ap (λ (x : Task R). settle_of rops real x m) (sym k) in (
        λ ok h. same (moved ∙ law.0 ok h) kept,
        λ least h. q.answer ∙ ap (λ (x : Run R). x.answer) moved ∙ law.1 least h,
      )
    where
      same : settle_of rops real (task_of t) m ≡ settle_of rops real (task_of s) n → s.kept ≡ t.kept → Same f g
      same run kept = record {
        answer = r.answer ∙ sym (ap (λ (x : Run R). x.answer) run) ∙ sym q.answer;
        values = r.values ∙ sym (ap (λ (x : Run R). x.values) run) ∙ sym q.values;
        offs = r.offs ∙ sym (ap (λ (x : Run R). x.offs) run) ∙ sym q.offs;
        kept =
            r.kept ∙ sym (ap (λ (x : Run R). kept_all ops x.turns s.kept) run)
            ∙ ap (kept_all ops (settle_of rops real (task_of t) m).turns) kept ∙ sym q.kept;
      }

  -- a run refused before it began, and one that was not
  pub refused_run : (s : Start C R) (limit : ℕ) (why : Refusal) → denied why ≡ check_task rops real (task_of s) limit →
      IsRun ops rops real s limit (finish_of (denied why) s.values s.offs s.kept)
  unfolding settle_of
  refused_run s limit why e = record {
    answer = ap (λ (a : Answer (Unit {0})). (settle_by rops real (task_of s) limit a).answer) e;
    values = ap (λ (a : Answer (Unit {0})). (settle_by rops real (task_of s) limit a).values) e;
    offs = ap (λ (a : Answer (Unit {0})). (settle_by rops real (task_of s) limit a).offs) e;
    kept = sym (turn_none ops s.kept)
        ∙ ap (λ (a : Answer (Unit {0})). kept_all ops (settle_by rops real (task_of s) limit a).turns s.kept) e;
  }

  pub begun_run : (s : Start C R) (limit : ℕ) (largest : R) (f : Finish C R) → given tt ≡ check_task rops real (task_of s) limit →
      length s.values ≡ s.side → largest ≡ s.largest →
      f.answer ≡ (run_of rops real s.tolerance limit (length s.values) largest s.values s.offs).answer →
      f.values ≡ (run_of rops real s.tolerance limit (length s.values) largest s.values s.offs).values →
      f.offs ≡ (run_of rops real s.tolerance limit (length s.values) largest s.values s.offs).offs →
      f.kept ≡ kept_all ops (run_of rops real s.tolerance limit (length s.values) largest s.values s.offs).turns s.kept →
      IsRun ops rops real s limit f
  unfolding settle_of
  begun_run s limit largest f e n l a v o k =
      let whole : run_of rops real s.tolerance limit (length s.values) largest s.values s.offs ≡ settle_of rops real (task_of s) limit =
      ap (λ (m : ℕ). run_of rops real s.tolerance limit m largest s.values s.offs) n
      ∙ ap (λ (x : R). run_of rops real s.tolerance limit s.side x s.values s.offs) l
      ∙ ap (settle_by rops real (task_of s) limit) e in
      record {
        answer = a ∙ ap (λ (x : Run R). x.answer) whole;
        values = v ∙ ap (λ (x : Run R). x.values) whole;
        offs = o ∙ ap (λ (x : Run R). x.offs) whole;
        kept = k ∙ ap (λ (x : Run R). kept_all ops x.turns s.kept) whole;
      }
