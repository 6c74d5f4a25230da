-- The number and the layer of each fault.
use Rattle.std.specs.Prelude.{ℕ, ◌+◌, ◌*◌}
use Rattle.model.specs.declared.refusal.Layer.{Layer}
use Rattle.model.specs.declared.refusal.Layer.TheVariants as layers
use Rattle.model.specs.declared.refusal.Fault.{Fault}
use Rattle.model.specs.declared.refusal.Fault.TheVariants.{Kind, Horizon, Short, Count, Range, Trailing, Term, NoActivity, PastHorizon, AlreadyBegun, BeforeClock, ClosedBelow, StartBytes, FlowWords, NodeWords, ChainEntries, FileTooLong, Impossible, Unbounded, StartClosed, LagBroken, WordAbove, Unbalanced, ValueDiffers}
use Rattle.model.specs.declared.refusal.Refusal.{Refusal}

abbrev pub number_of : Fault → ℕ
number_of Kind = 1
number_of Horizon = 2
number_of Short = 3
number_of Count = 4
number_of Range = 5
number_of Trailing = 6
number_of Term = 7
number_of NoActivity = 8
number_of PastHorizon = 9
number_of AlreadyBegun = 10
number_of BeforeClock = 11
number_of ClosedBelow = 12
number_of StartBytes = 13
number_of FlowWords = 14
number_of NodeWords = 15
number_of ChainEntries = 16
number_of FileTooLong = 17
number_of Impossible = 18
number_of Unbounded = 19
number_of StartClosed = 20
number_of LagBroken = 21
number_of WordAbove = 22
number_of Unbalanced = 23
number_of ValueDiffers = 24

abbrev pub layer_of : Fault → Layer
layer_of Kind = layers.File
layer_of Horizon = layers.File
layer_of Short = layers.File
layer_of Count = layers.File
layer_of Range = layers.File
layer_of Trailing = layers.File
layer_of Term = layers.Term
layer_of NoActivity = layers.Campaign
layer_of PastHorizon = layers.Campaign
layer_of AlreadyBegun = layers.Campaign
layer_of BeforeClock = layers.Campaign
layer_of ClosedBelow = layers.Campaign
layer_of StartBytes = layers.Memory
layer_of FlowWords = layers.Memory
layer_of NodeWords = layers.Memory
layer_of ChainEntries = layers.Memory
layer_of FileTooLong = layers.Memory
layer_of Impossible = layers.Campaign
layer_of Unbounded = layers.Flow
layer_of StartClosed = layers.Check
layer_of LagBroken = layers.Check
layer_of WordAbove = layers.Check
layer_of Unbalanced = layers.Check
layer_of ValueDiffers = layers.Check

abbrev pub refuse : Fault → ℕ → Refusal
refuse f p = record { fault = f; place = p }

abbrev pub code_of : Refusal → ℕ
code_of r = number_of r.fault * 65536 + r.place
