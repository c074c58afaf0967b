use Rattle.std.proofs.Common.{◌≡◌, ℕ, ◌+◌, ◌-◌, ◌*◌, ◌<◌, ◌≤◌, List, ◌∷◌, ◌++◌, length, take, drop, ap, ◌∙◌, one-mul, zero-mul, arith}
use borrow.Rule.Slice.PartMut.{put_mid}
use Rattle.std.proofs.lemmas.List.{take_rest}
use Rattle.tridiagonal.specs.Hermitian.{row_sum, below_sum, first_sum, first_column}
use Rattle.tridiagonal.specs.Tables.{lower}
use Rattle.tridiagonal.proofs.Columns.{column_next, lower_more, lower_none}
use Rattle.tridiagonal.proofs.Lent.{end_written}
use Rattle.tridiagonal.proofs.Products.{hegemv_start, hegemv_more, hegemv_all}
use Rattle.tridiagonal.proofs.square.Square.hegemv.Goals as goal

pub loop-j-init : goal.loop-j-init
loop-j-init g c =
    let n = c.args.self.now.n in let k = c.args.self.now.k in let t = c.args.self.now.cells.now in
    let o = g.T.Arithmetic.ops in
    let all : k + (n - k) ≡ n = omega arith in
    let some : 0 < n - k = omega arith in
    let one : 1 * n ≡ 0 + n = omega (arith, one-mul n) in
    let from : 0 * n + (k + 0) ≡ 0 + k = omega (arith, zero-mul n) in
    let long : n - (k + 0) ≡ n - k = omega arith in
    let cols = lower_more n k (n - k) 0 (1 * n) t all some one in
    let col = c.column.ensures ∙ ap (λ (m : ℕ). take m (drop (0 * n + (k + 0)) t)) long ∙ ap (λ (i : ℕ). take (n - k) (drop i t)) from in
    let made = c.hegemv_first.ensures
    ∙ ap (λ (l : List g.row.T.Denot). first_sum o c.args.alpha l c.args.x.now ∷
    drop 1 (first_column o c.args.alpha l c.args.x.now)) col in
    let start = hegemv_start o c.args.alpha (take (n - k) (drop (0 + k) t)) c.args.x.now c.hegemv_first.new.p
    (lower n (k + 1) (n - k - 1) (drop (1 * n) t)) made in cc

pub loop-j-preserved : goal.loop-j-preserved
loop-j-preserved g c =
    let n = c.args.self.now.n in let k = c.args.self.now.k in let j = c.loop-j.j in let t = c.args.self.now.cells.now in
    let x = c.args.x.now in let p = c.loop-j.p in let a = c.args.alpha in
    let o = g.T.Arithmetic.ops in
    let q = put_mid j (length p - j) p c.hegemv_column.new.p in
    let all : k + j + (n - k - j) ≡ n = omega arith in
    let some : 0 < n - k - j = omega arith in
    let same = c.loop-j.auto.p in
    let first = c.hegemv_first.auto.p in
    let within : j ≤ length p = omega arith in
    let row : k + (j + 1) ≡ k + j + 1 = omega arith in
    let count : n - k - (j + 1) ≡ n - k - j - 1 = omega arith in
    let cols = lower_more n (k + j) (n - k - j) (j * n) ((j + 1) * n) t all some (column_next j n) in
    let cs = lower n (k + j + 1) (n - k - j - 1) (drop ((j + 1) * n) t) in
    let x_part = take_rest x j in
    let p_part = take_rest p j in
    let col = take (n - (k + j)) (drop (j * n + (k + j)) t) in
    let made : c.hegemv_column.new.p ≡ row_sum o a col (drop j x) (drop j p) ∷ below_sum o a col (drop j x) (drop j p) =
    cc (c.hegemv_column.ensures, c.column-in-loop-j.ensures) in
    let write : q ≡ take j p ++ (row_sum o a col (drop j x) (drop j p) ∷ below_sum o a col (drop j x) (drop j p)) =
    end_written j p c.hegemv_column.new.p ∙ ap (λ (l : List g.row.T.Denot). take j p ++ l) made in
    let step = hegemv_more o a col x p q cs j within write in cc c.loop-j.invariant

pub returns : goal.returns
returns g c =
    let n = c.args.self.now.n in let k = c.args.self.now.k in let j = c.loop-j.j in
    let none : n - k - j ≡ 0 = omega arith in
    let cols = ap (λ (m : ℕ). lower n (k + j) m (drop (j * n) c.args.self.now.cells.now)) none
    ∙ lower_none n (k + j) (drop (j * n) c.args.self.now.cells.now) in
    let all = hegemv_all g.T.Arithmetic.ops c.args.alpha (drop j c.args.x.now) c.loop-j.p j in cc c.loop-j.invariant
