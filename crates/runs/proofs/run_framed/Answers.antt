use Rattle.nogoods.specs.Index.{lent_cells}
use Rattle.runs.proofs.Lending.{front-size, front-blank}
use Rattle.runs.proofs.run_framed.Goals as goal

pub slice_bounds-run_lines-end : goal.slice_bounds-run_lines-end
slice_bounds-run_lines-end c = let q = c.cells_for-cells in front-size q.result lent_cells q.ensures

pub run_lines-requires : goal.run_lines-requires
run_lines-requires c = let q = c in
    let p = q.requires in record { program = p.program; index = p.index; relevant = p.relevant; start = p.start; bodies = p.bodies; short = p.short; empty = p.empty; cells = front-blank q.cells_for-cells.result lent_cells q.cells_for-cells.ensures }
