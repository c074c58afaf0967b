use Rattle.std.proofs.Common.{◌≡◌, ℕ, ◌+◌, ◌-◌, ◌*◌, ◌<◌, ◌≤◌, List, ◌++◌, length, get_or, take, drop, sym, refl, ap, ◌∙◌, add-zero, arith, rules, length-drop, take-append-drop, get_or-drop, drop-drop}
use borrow.Rule.Slice.PartMut.{put_mid}
use Rattle.std.proofs.lemmas.List.{take_rest, get_or_read}
use Rattle.tridiagonal.specs.Hermitian.{hegerc_three_of}
use Rattle.tridiagonal.specs.Tables.{lower, put}
use Rattle.tridiagonal.proofs.Columns.{column_held, column_next, put_none}
use Rattle.tridiagonal.proofs.Products.{column_of, three_written, three_more}
use Rattle.tridiagonal.proofs.square.Square.hegerc_three.Goals as goal

pub loop-j-preserved : goal.loop-j-preserved
loop-j-preserved g c =
    let n = c.args.self.now.n in let k = c.args.self.now.k in let j = c.loop-j.j in let t = c.loop-j.self.cells.now in
    let x = c.args.x.now in let w = c.args.w.now in
    let o = g.T.Arithmetic.ops in
    let u = c.axpy_column.new.self.cells.now in
    let same : length t ≡ (n - k) * n = cc (c.loop-j.self.held, c.loop-j.invariant.same.n, c.loop-j.invariant.same.k) in
    let held = column_held j (n - k) n c.loop-j-test.true in
    let next = column_next j n in
    let all : k + j + (n - k - j) ≡ n = omega arith in
    let some : 0 < n - k - j = omega arith in
    let ends : (j + 1) * n ≤ length t = omega arith in
    let x_long : length (drop j x) ≡ n - k - j = let d = length-drop j x in omega arith in
    let w_long : length (drop j w) ≡ n - k - j = let d = length-drop j w in omega arith in
    let in_x : j < length x = omega arith in
    let in_w : j < length w = omega arith in
    let wj : c.index-w-j.result ≡ get_or (drop j w) 0 o.zero =
    get_or_read w j c.index-w-j.result in_w c.index-w-j.is o.zero
    ∙ ap (λ (i : ℕ). get_or w i o.zero) (sym (add-zero j)) ∙ sym (get_or-drop j w 0 o.zero) in
    let wj' : c.index-w-j-in-loop-j.result ≡ get_or (drop j w) 0 o.zero =
    get_or_read w j c.index-w-j-in-loop-j.result in_w c.index-w-j-in-loop-j.is o.zero
    ∙ ap (λ (i : ℕ). get_or w i o.zero) (sym (add-zero j)) ∙ sym (get_or-drop j w 0 o.zero) in
    let xj : c.index-x-j.result ≡ get_or (drop j x) 0 o.zero =
    get_or_read x j c.index-x-j.result in_x c.index-x-j.is o.zero
    ∙ ap (λ (i : ℕ). get_or x i o.zero) (sym (add-zero j)) ∙ sym (get_or-drop j x 0 o.zero) in
    let fa : c.mul-a.result ≡ o.mul c.args.alpha (o.conj (get_or (drop j w) 0 o.zero)) =
    c.mul-a.ensures.value ∙ ap (o.mul c.args.alpha) (c.conjugate.ensures.value ∙ ap o.conj wj) in
    let fb : c.mul-b.result ≡ o.mul c.args.alpha (o.conj (get_or (drop j x) 0 o.zero)) =
    c.mul-b.ensures.value ∙ ap (o.mul c.args.alpha) (c.conjugate-in-loop-j.ensures.value ∙ ap o.conj xj) in
    let fd : c.mul-d.result ≡ o.mul c.args.beta (o.conj (get_or (drop j w) 0 o.zero)) =
    c.mul-d.ensures.value ∙ ap (o.mul c.args.beta) (c.conjugate-in-loop-j-2.ensures.value ∙ ap o.conj wj') in
    let old = take (n - (k + j)) (drop (j * n + (k + j)) t) in
    let made = column_of o c.args.alpha c.args.beta (drop j x) (drop j w) old in
    let write : u ≡ put_mid (j * n + (k + j)) ((j + 1) * n - (j * n + (k + j))) t made =
    three_written o c.args.alpha c.args.beta n k j c.loop-j.self.n c.loop-j.self.k t u (drop j x) (drop j w)
    c.mul-a.result c.mul-b.result c.mul-d.result c.loop-j.invariant.same.n c.loop-j.invariant.same.k fa fb fd
    (rw (take_rest x j, take_rest w j) at c.axpy_column.ensures.cells) in
    let row : k + j + 1 ≡ k + (j + 1) = omega arith in
    let count : n - k - j - 1 ≡ n - k - (j + 1) = omega arith in
    let xs = drop-drop 1 j x in
    let ws = drop-drop 1 j w in
    let step =
    three_more o c.args.alpha c.args.beta n (k + j) (n - k - j) (j * n) ((j + 1) * n) t u made (drop j x) (drop j w)
    all some next ends x_long w_long refl write in
    record { whole = cc (step ∙ c.loop-j.invariant.whole); same = search rules }

pub returns : goal.returns
returns g c =
    let n = c.args.self.now.n in let k = c.args.self.now.k in let j = c.loop-j.j in
    let none : n - k - j ≡ 0 = omega arith in
    let end = c.loop-j.self.cells.now in
    let left =
    hegerc_three_of g.T.Arithmetic.ops c.args.alpha c.args.beta (drop j c.args.x.now) (drop j c.args.w.now)
    (lower n (k + j) (n - k - j) (drop (j * n) end)) in
    record {
      table = sym (take-append-drop (j * n) end)
          ∙ ap (λ (l : List g.row.T.Denot). take (j * n) end ++ l) (sym (put_none n (k + j) left (drop (j * n) end)))
          ∙ ap (λ (m : ℕ). take (j * n) end ++ put n (k + j) m left (drop (j * n) end)) (sym none)
          ∙ c.loop-j.invariant.whole;
      same = c.loop-j.invariant.same;
    }
