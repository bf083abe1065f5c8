-- The picture of an input, and its text.
use Rattle.std.specs.Prelude.{◌≡◌, ◌⊎◌, ℕ, Bool, false, List, Contains, Option, Some, Result, Ok, Err, String, string_bytes, ⊤, bytes_eq}
use Rattle.std.specs.List.{list_any}
use Rattle.std.specs.declared.alloc.Global.{Global}
use Rattle.std.specs.declared.io.Error.{Error}
use Rattle.std.specs.declared.io.ErrorKind.{ErrorKind}
use Rattle.std.specs.declared.io.ErrorKind.TheVariants as io
use Rattle.std.specs.IoError.{error_kind}
use Rattle.genealogy_svg.specs.{GraphError, Picture, UnitedFault, dot_text, picture_of}
use Rattle.genealogy_svg.specs.declared.reported.UnitedFault.TheVariants as united
use Rattle.genealogy_svg.specs.declared.reported.GraphError.TheVariants as graph_error
use Rattle.genealogy_svg.specs.{Drawing, LayoutFault, IsEndOf, IsLaidOut, nodes_of, HasCircle, svg_text}
use Rattle.genealogy_svg.specs.declared.drawing.LayoutFault.TheVariants as layout
use Rattle.plant_trace.specs.{Node}
use Rattle.plant_trace.specs.declared.node.Node.TheVariants.{Lot, Batch}
use Rattle.genealogy_picture.specs.declared.words.Format.{Format}
use Rattle.genealogy_picture.specs.declared.words.Format.TheVariants.{Dot, Svg}
use Rattle.genealogy_picture.specs.declared.ending.InputError.{InputError}
use Rattle.genealogy_picture.specs.declared.ending.InputError.TheVariants as refusal
use Rattle.genealogy_picture.specs.declared.ending.DrawError.{DrawError}
use Rattle.genealogy_picture.specs.declared.ending.DrawError.TheVariants as stop
use Rattle.genealogy_picture.specs.Answers.{◌>>=◌}
use Rattle.genealogy_picture.specs.Reading.{reported_of}

-- how a picture that wasn't made is reported
abbrev pub of_whole : Result Picture UnitedFault → Result Picture DrawError
of_whole (Ok p) = Ok p
of_whole (Err (united.Reported p)) = Err (stop.Refused (refusal.Graph p))
of_whole (Err united.Memory) = Err stop.Memory

abbrev pub whole : {A : Type 0} → Result A GraphError → Result A InputError
whole (Ok a) = Ok a
whole (Err p) = Err (refusal.Graph p)

-- the picture of the answers in the bytes, or why there is none: a line that is no answer goes before what is wrong with them all
abbrev pub picture_in : List ℕ → Result Picture InputError
picture_in bytes = reported_of bytes >>= (λ reported. whole (picture_of reported))

-- ---- texts

-- how a layout that wasn't made is reported
abbrev pub of_layout : Result Drawing LayoutFault → Result Drawing DrawError
of_layout (Ok d) = Ok d
of_layout (Err layout.Circle) = Err (stop.Refused refusal.Circle)
of_layout (Err (layout.Lost node)) = Err (stop.Refused (refusal.Graph (graph_error.Lost node)))
of_layout (Err layout.Memory) = Err stop.Memory

-- why a picture isn't laid out: its edges lead in a circle, one of them begins or ends at a node that is none of it, or memory was refused
abbrev pub IsLayoutError : Picture → DrawError → Type 0
IsLayoutError p (stop.Refused refusal.Circle) = HasCircle p.edges
IsLayoutError p (stop.Refused (refusal.Graph (graph_error.Lost node))) = IsEndOf p.edges node × (¬ Contains (nodes_of p) node)
IsLayoutError p stop.Memory = ⊤
IsLayoutError p _ = ⊥

-- a lot of the picture, or a batch, has this id
abbrev pub has_lot : Picture → List ℕ → Bool
has_lot p id = list_any (λ lot. bytes_eq lot.id id) p.lots

abbrev pub has_batch : Picture → List ℕ → Bool
has_batch p id = list_any (λ batch. bytes_eq batch id) p.batches

abbrev pub has_node : Picture → Node → Bool
has_node p (Lot id) = has_lot p id
has_node p (Batch id) = has_batch p id

-- the node that was asked for is none of the picture
abbrev pub IsAbsent : Picture → Option Node → DrawError → Type 0
IsAbsent p asked error = (node : Node) × (asked ≡ Some node) × (has_node p node ≡ false) × (error ≡ stop.Refused refusal.Absent)

-- why a picture has no text: in DOT because memory was refused, in SVG because the node that was asked for is none of it or it isn't laid out
abbrev pub IsTextError : Format → Option Node → Picture → DrawError → Type 0
IsTextError Dot asked p error = error ≡ stop.Memory
IsTextError Svg asked p error = IsAbsent p asked error ⊎ IsLayoutError p error

-- the text of a picture: in DOT this one, in SVG that of a layout
abbrev pub IsTextOf : Format → Option Node → Picture → List ℕ → Type 0
IsTextOf Dot asked p text = text ≡ dot_text p
IsTextOf Svg asked p text = (d : Drawing) × IsLaidOut p d × (text ≡ svg_text asked d)

-- why a picture isn't drawn in SVG: its edges lead in a circle, or the node that was asked for is none of it
abbrev pub IsNoSvg : Option Node → Picture → InputError → Type 0
IsNoSvg asked p refusal.Circle = HasCircle p.edges
IsNoSvg asked p refusal.Absent = (node : Node) × (asked ≡ Some node) × (has_node p node ≡ false)
IsNoSvg asked p _ = ⊥

-- the answers in the bytes have no picture, for this, or theirs isn't drawn in SVG, in SVG alone; or else a read failed, or memory was refused
abbrev pub IsRefused : Format → Option Node → List ℕ → DrawError → Type 0
IsRefused format asked bytes (stop.Refused r) = (picture_in bytes ≡ Err r) ⊎ ((p : Picture) × (picture_in bytes ≡ Ok p) × (format ≡ Svg) × IsNoSvg asked p r)
IsRefused format asked bytes stop.Open = ⊥
IsRefused format asked bytes stop.Read = ⊤
IsRefused format asked bytes stop.Write = ⊥
IsRefused format asked bytes stop.Memory = ⊤

-- the text of the picture of the answers in the bytes, or why there is none
abbrev pub Draws : Format → Option Node → List ℕ → Result (String Global) DrawError → Type 0
Draws format asked bytes (Ok text) = (p : Picture) × (picture_in bytes ≡ Ok p) × IsTextOf format asked p (string_bytes text)
Draws format asked bytes (Err stop) = IsRefused format asked bytes stop

-- an error of a reading for want of memory is reported as that, and every other as a read that failed
abbrev pub draw_error_of_kind : ErrorKind → DrawError
draw_error_of_kind io.OutOfMemory = stop.Memory
draw_error_of_kind _ = stop.Read

-- how many bytes a reading gave, or how its error is reported
abbrev pub read_count : Result ℕ Error → Result ℕ DrawError
read_count (Ok count) = Ok count
read_count (Err error) = Err (draw_error_of_kind (error_kind error))
