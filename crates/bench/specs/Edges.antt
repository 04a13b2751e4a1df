-- The code's edges as those of the lines.
use Rattle.wire.specs.Lines.{Edge as LineEdge, START, STOP, Fall as FALL, Bit}
use Rattle.bench.specs.declared.receiver.Edge.{Edge}
use Rattle.bench.specs.declared.receiver.Edge.TheVariants.{Start, Stop, Rise, Fall}

unfoldable pub edge_of : Edge → LineEdge
edge_of Start = START
edge_of Stop = STOP
edge_of (Rise sda) = Bit sda
edge_of Fall = FALL
