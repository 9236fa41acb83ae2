-- `random::count_candidates`: the highest raised premium tells the cells of the choice, and they are counted. Assumes nothing.
use Prim.Native.Nat.{◌*◌}
use mathlib.Core.Path.{◌∙◌}
use Rattle.random.specs.Promises.{Tells}
use Rattle.random.proofs.Takes.{wide}
use Rattle.random.proofs.count_candidates.Goals as goal

pub returns : goal.returns
returns c =
    let a = c.args in
    let cells = a.rows * a.columns in record {
      tops_len_unchanged = c.top-top.ensures.tops_len_unchanged;
      units_len_unchanged = (c.count-count.ensures.units_len_unchanged.0 ∙ c.top-top.ensures.units_len_unchanged.0, c.count-count.ensures.units_len_unchanged.1);
      tells = λ g s old st.
          let q = c.top-top.ensures.result_value g s old st in
          let k : Tells g s a.work.now cells c.top-top.result = record { one_click = q.0; candidates = q.1 } in
          (k, wide g s a.work.now cells c.top-top.result k c.count-count.result c.count-count.ensures.value.0);
    }
