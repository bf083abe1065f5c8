pub mod Dot
pub mod Reported
pub mod United
pub mod EdgeEnds
pub mod Layouts
pub mod Layers
pub mod Positions
pub mod Rows
pub mod Svg
pub use Dot.{mark_colour, mark_name, stock_text}
unfoldable pub use Dot.{dot_text}
pub use Reported.{graph_error_text}
pub use United.{Edges, LotMap, ReportsAs, batches_from, edge_in, edges_from, edges_in, id_cmp, lot_noted, lot_unit, lots_from, measured, noted_where, or_else, picture_with, unit_at, ◌>>=◌}
unfoldable pub use United.{picture_of}
pub use EdgeEnds.{HasEnds, IsBetween, nodes_in}
pub use declared.model.Picture.{Picture}
pub use declared.model.PictureEdge.{PictureEdge}
pub use declared.model.PictureLot.{PictureLot}
pub use declared.reported.GraphError.{GraphError}
pub use declared.reported.ReportedEdge.{ReportedEdge}
pub use declared.reported.UnitedFault.{UnitedFault}
pub use Layouts.{IsEndOf, IsErrorOf, IsLaidOut, IsLostEnd, IsOutside, IsUnpositioned, LeadsRight, batches_in, drawing_in, drawn_edges_in, lots_in, nodes_of, placed, position_at}
pub use Layers.{AreSettled, HasCircle, IsLayered, Leads, edges_to, height}
pub use Positions.{ArePositioned, position_cmp}
pub use Rows.{AreApart, HasAmounts, HasRow, HaveRows, IsSmall, in_row, without_row}
pub use Svg.{boxes_end, edge_end, greatest, lower_end, right_end}
unfoldable pub use Svg.{svg_text}
pub use declared.drawing.Drawing.{Drawing}
pub use declared.drawing.LayoutFault.{LayoutFault}
