use Rattle.std.proofs.Common.{◌≡◌, ◌+◌, ◌-◌, ◌*◌, ◌++◌, take, drop}
use Rattle.tridiagonal.specs.Hermitian.{hegemv_from, hegemv_of}
use Rattle.tridiagonal.specs.Tables.{lower}
use Rattle.tridiagonal.proofs.square.Square.hegemv.Given as goal

-- What is left of the columns gives the whole product.
abbrev pub invariant-loop-j : goal.invariant-loop-j
invariant-loop-j g l =
    take l.j l.p ++
    hegemv_from g.T.Arithmetic.ops l.alpha (lower l.self.n (l.self.k + l.j) (l.self.n - l.self.k - l.j) (drop (l.j * l.self.n) l.self.cells.now))
    (drop l.j l.x) (drop l.j l.p) ≡
    hegemv_of g.T.Arithmetic.ops l.alpha (lower l.self.n l.self.k (l.self.n - l.self.k) l.self.cells.now) l.x
