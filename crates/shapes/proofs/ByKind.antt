-- What holds of each kind holds of all; and what of each first item. Assumes nothing.
use mathlib.Core.Path.{◌≡◌, refl}
use Prim.Native.Nat.{ℕ, zero, suc, ◌<◌}
use native.Mathlib.Omega.{arith}
use Rattle.program.specs.Table.{kind_count}
use Rattle.shapes.specs.Kinds.{constant_kind, parameter_kind, variable_kind, operator_kind, sense_kind, rep_kind, if_kind, mux_kind, nbr_kind, range_kind, fold_kind, fold_by_kind, call_kind, lag_kind}
use Rattle.shapes.specs.Kinds.{number_of, kind_at}
use Rattle.shapes.specs.declared.Kind.{Kind}
use Rattle.shapes.specs.declared.Kind.TheVariants.{Constant, Parameter, Variable, Operator, Sense, Rep, If, Mux, Nbr, Range, Fold, FoldBy, Call, Lag}
use Rattle.shapes.specs.Shapes.{no_item, operator_item, parameter_item, variable_item, kept_item, slot_item, constant_item, definition_item, item_count}

pub record ByKind (P : ℕ → Type 0) : Type 0 where
  pub constant : P constant_kind
  pub parameter : P parameter_kind
  pub variable : P variable_kind
  pub operator : P operator_kind
  pub sense : P sense_kind
  pub rep : P rep_kind
  pub if_then : P if_kind
  pub mux : P mux_kind
  pub nbr : P nbr_kind
  pub range : P range_kind
  pub fold : P fold_kind
  pub fold_by : P fold_by_kind
  pub call : P call_kind
  pub lag : P lag_kind

pub by_kind : {P : ℕ → Type 0} → ByKind P → (k : ℕ) → k < kind_count → P k
by_kind r zero h = r.constant
by_kind r (suc zero) h = r.parameter
by_kind r (suc (suc zero)) h = r.variable
by_kind r (suc (suc (suc zero))) h = r.operator
by_kind r (suc (suc (suc (suc zero)))) h = r.sense
by_kind r (suc (suc (suc (suc (suc zero))))) h = r.rep
by_kind r (suc (suc (suc (suc (suc (suc zero)))))) h = r.if_then
by_kind r (suc (suc (suc (suc (suc (suc (suc zero))))))) h = r.mux
by_kind r (suc (suc (suc (suc (suc (suc (suc (suc zero)))))))) h = r.nbr
by_kind r (suc (suc (suc (suc (suc (suc (suc (suc (suc zero))))))))) h = r.range
by_kind r (suc (suc (suc (suc (suc (suc (suc (suc (suc (suc zero)))))))))) h = r.fold
by_kind r (suc (suc (suc (suc (suc (suc (suc (suc (suc (suc (suc zero))))))))))) h = r.fold_by
by_kind r (suc (suc (suc (suc (suc (suc (suc (suc (suc (suc (suc (suc zero)))))))))))) h = r.call
by_kind r (suc (suc (suc (suc (suc (suc (suc (suc (suc (suc (suc (suc (suc zero))))))))))))) h = r.lag
by_kind r (suc (suc (suc (suc (suc (suc (suc (suc (suc (suc (suc (suc (suc (suc k)))))))))))))) h = absurd (omega arith)

-- a kind's number, and the kind of a number
pub kind-known : (k : Kind) → number_of k < kind_count
kind-known Constant = omega arith
kind-known Parameter = omega arith
kind-known Variable = omega arith
kind-known Operator = omega arith
kind-known Sense = omega arith
kind-known Rep = omega arith
kind-known If = omega arith
kind-known Mux = omega arith
kind-known Nbr = omega arith
kind-known Range = omega arith
kind-known Fold = omega arith
kind-known FoldBy = omega arith
kind-known Call = omega arith
kind-known Lag = omega arith

pub kind-of-number : (k : Kind) → kind_at (number_of k) ≡ k
kind-of-number Constant = refl
kind-of-number Parameter = refl
kind-of-number Variable = refl
kind-of-number Operator = refl
kind-of-number Sense = refl
kind-of-number Rep = refl
kind-of-number If = refl
kind-of-number Mux = refl
kind-of-number Nbr = refl
kind-of-number Range = refl
kind-of-number Fold = refl
kind-of-number FoldBy = refl
kind-of-number Call = refl
kind-of-number Lag = refl

pub number-of-kind : (k : ℕ) → k < kind_count → number_of (kind_at k) ≡ k
number-of-kind k h =
    by_kind {P = λ k. number_of (kind_at k) ≡ k}
    record {
      constant = refl;
      parameter = refl;
      variable = refl;
      operator = refl;
      sense = refl;
      rep = refl;
      if_then = refl;
      mux = refl;
      nbr = refl;
      range = refl;
      fold = refl;
      fold_by = refl;
      call = refl;
      lag = refl;
    }
    k h

pub record ByItem (P : ℕ → Type 0) : Type 0 where
  pub none : P no_item
  pub operator : P operator_item
  pub parameter : P parameter_item
  pub variable : P variable_item
  pub kept : P kept_item
  pub slot : P slot_item
  pub constant : P constant_item
  pub definition : P definition_item

pub by-item : {P : ℕ → Type 0} → ByItem P → (l : ℕ) → l < item_count → P l
by-item r zero h = r.none
by-item r (suc zero) h = r.operator
by-item r (suc (suc zero)) h = r.parameter
by-item r (suc (suc (suc zero))) h = r.variable
by-item r (suc (suc (suc (suc zero)))) h = r.kept
by-item r (suc (suc (suc (suc (suc zero))))) h = r.slot
by-item r (suc (suc (suc (suc (suc (suc zero)))))) h = r.constant
by-item r (suc (suc (suc (suc (suc (suc (suc zero))))))) h = r.definition
by-item r (suc (suc (suc (suc (suc (suc (suc (suc l)))))))) h = absurd (omega arith)
