-- What stays of a form while it is worked on. Definitions only.
use Rattle.std.specs.Prelude.{◌≡◌, length}
use Rattle.eigen.specs.declared.form.Tridiagonal.{Tridiagonal}

-- the buffers, and how many entries they have
pub record SameBuffers {R : Type 0} (f g : Tridiagonal R) : Type 0 where
  pub values : g.values.ghost_name ≡ f.values.ghost_name
  pub offs : g.offs.ghost_name ≡ f.offs.ghost_name
  pub length : length g.offs.now ≡ length f.offs.now
