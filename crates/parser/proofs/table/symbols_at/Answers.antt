use Rattle.std.proofs.Common.{arith}
use Rattle.parser.proofs.Cuts.{symbols_cut, symbols_are}
use Rattle.parser.proofs.table.symbols_at.Goals as goal

pub offset_bounds-from-r : goal.offset_bounds-from-r
offset_bounds-from-r c = let g = symbols_cut _ _ _ c.symbols_from-from.ensures c.symbols-all.ensures c.requires in omega arith

pub bounds-from-r : goal.bounds-from-r
bounds-from-r c = let g = symbols_cut _ _ _ c.symbols_from-from.ensures c.symbols-all.ensures c.requires in omega arith

pub overflow_add-result : goal.overflow_add-result
overflow_add-result c = let g = symbols_cut _ _ _ c.symbols_from-from.ensures c.symbols-all.ensures c.requires in omega arith

pub offset_bounds-from-r-2 : goal.offset_bounds-from-r-2
offset_bounds-from-r-2 c = let g = symbols_cut _ _ _ c.symbols_from-from.ensures c.symbols-all.ensures c.requires in omega arith

pub bounds-from-r-2 : goal.bounds-from-r-2
bounds-from-r-2 c = let g = symbols_cut _ _ _ c.symbols_from-from.ensures c.symbols-all.ensures c.requires in omega arith

pub offset_bounds-all-from : goal.offset_bounds-all-from
offset_bounds-all-from c = let g = symbols_cut _ _ _ c.symbols_from-from.ensures c.symbols-all.ensures c.requires in omega arith

pub slice_bounds-result-count : goal.slice_bounds-result-count
slice_bounds-result-count c = let g = symbols_cut _ _ _ c.symbols_from-from.ensures c.symbols-all.ensures c.requires in omega arith

pub slice_bounds-result-start : goal.slice_bounds-result-start
slice_bounds-result-start c = let g = symbols_cut _ _ _ c.symbols_from-from.ensures c.symbols-all.ensures c.requires in omega arith

pub slice_bounds-result-end : goal.slice_bounds-result-end
slice_bounds-result-end c = let g = symbols_cut _ _ _ c.symbols_from-from.ensures c.symbols-all.ensures c.requires in omega arith

pub returns : goal.returns
returns c = symbols_are _ _ _ c.symbols_from-from.ensures c.symbols-all.ensures c.requires
