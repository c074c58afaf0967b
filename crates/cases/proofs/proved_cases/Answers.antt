-- Every case is computed.
use Rattle.std.proofs.Common.{refl}
use lib.Ieee.{lt, le, eq, neg, add, sub, mul, div, is_nan, of_bits, to_bits}
use Rattle.std.specs.Float.{float_is_finite, float_with_sign, float_signum, is_sign_negative}
use Rattle.root.specs.Root.{root_of, whole_root}
use Rattle.tridiagonal.specs.Assemble.{assembled_from, identity_from, matrix_q, reflected_columns, unit_from}
use Rattle.tridiagonal.specs.Blas.{axpy_of, dotc_of, running_sums}
use Rattle.tridiagonal.specs.Checks.{entry_refusal, reduce_refusal}
use Rattle.tridiagonal.specs.Hermitian.{hegemv_from, hegemv_of, hegerc_of}
use Rattle.tridiagonal.specs.Householder.{axis_factor, axis_norm, axis_of, axis_reflects, first_moved, reflected, signed_norm}
use Rattle.tridiagonal.specs.Reduce.{divided, largest_size, reduced_lower, reduced_offs, reduced_signs, reduced_table, reduced_values}
use Rattle.tridiagonal.specs.Tables.{lower, put}
use Rattle.tridiagonal.specs.Tridiagonal.{reduced_columns, reduced_norms, stepped_column, stepped_rest, updated}
use Rattle.eigen.specs.Chases.{chase_from}
use Rattle.eigen.specs.Iterate.{iterate}
use Rattle.eigen.specs.Settles.{settle_of}
use Rattle.decomposition.specs.Solutions.{by_columns, solution}
use Rattle.cases.proofs.proved_cases.Goals as goal

pub returns : goal.returns
unfolding lt le eq neg add sub mul div is_nan of_bits to_bits float_is_finite float_with_sign float_signum is_sign_negative root_of whole_root assembled_from identity_from matrix_q reflected_columns unit_from axpy_of dotc_of running_sums entry_refusal reduce_refusal hegemv_from hegemv_of hegerc_of axis_factor axis_norm axis_of axis_reflects first_moved reflected signed_norm divided largest_size reduced_lower reduced_offs reduced_signs reduced_table reduced_values lower put reduced_columns reduced_norms stepped_column stepped_rest updated chase_from iterate settle_of by_columns solution
returns c = record {
  cases = (
    λ asked. refl,
    (
      ((refl, refl), (refl, refl, refl), refl),
      (
        λ asked. (refl, refl),
        (
          λ asked. refl,
          (
            λ asked. (refl, refl),
            (
              λ asked. (refl, refl),
              (λ asked. (refl, refl), (λ asked. refl, (λ asked. (refl, refl), (refl, (refl, tt))))),
            ),
          ),
        ),
      ),
    ),
  );
  count = c.number_of_cases.ensures.count;
}
