use Rattle.std.proofs.Common.{◌≡◌, ◌+◌, ◌-◌, ◌*◌, ◌++◌, take, drop}
use Rattle.tridiagonal.specs.Hermitian.{hegerc_three_of}
use Rattle.tridiagonal.specs.Squares.{SameSquare}
use Rattle.tridiagonal.specs.Tables.{lower, put}
use Rattle.tridiagonal.proofs.square.Square.hegerc_three.Given as goal

abbrev pub invariant-loop-j : goal.invariant-loop-j
invariant-loop-j g l = record {
  -- updating what is left of the columns gives the whole table
  whole : take (l.j * l.fn.self.n) l.self.cells.now ++
      put l.fn.self.n (l.fn.self.k + l.j) (l.fn.self.n - l.fn.self.k - l.j)
      (hegerc_three_of g.T.Arithmetic.ops l.alpha l.beta (drop l.j l.x) (drop l.j l.w)
      (lower l.fn.self.n (l.fn.self.k + l.j) (l.fn.self.n - l.fn.self.k - l.j) (drop (l.j * l.fn.self.n) l.self.cells.now)))
      (drop (l.j * l.fn.self.n) l.self.cells.now) ≡
      put l.fn.self.n l.fn.self.k (l.fn.self.n - l.fn.self.k)
      (hegerc_three_of g.T.Arithmetic.ops l.alpha l.beta l.x l.w
      (lower l.fn.self.n l.fn.self.k (l.fn.self.n - l.fn.self.k) l.fn.self.cells.now)) l.fn.self.cells.now;
  same : SameSquare l.fn.self l.self;
}
