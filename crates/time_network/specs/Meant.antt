-- A time network as a value: the project that its points and arcs are of, and the network.
use Rattle.model.specs.Meaning as meanings
use Rattle.model.specs.Meaning.{Meaning}
use Rattle.flow.specs.Nets.{Net, Bounds}
use Rattle.time_network.specs.declared.held.TimeNetwork.{TimeNetwork}
use Rattle.time_network.specs.Held.{held, held_bounds, held_net, held_net_bounds}

abbrev pub meant : TimeNetwork → Meaning
meant x = held x.activities x.horizon x.lag_count x.lags

abbrev pub net_of : TimeNetwork → Net
net_of x = held_net (meant x) x.capacities

pub meant_bounds : (x : TimeNetwork) → meanings.Bounds (meant x)
meant_bounds x =
    held_bounds x.activities x.horizon x.lag_count x.lags x.some x.few x.ahead x.near x.counted
    x.joined

pub net_bounds : (x : TimeNetwork) → Bounds (net_of x)
net_bounds x = held_net_bounds (meant x) x.capacities (meant_bounds x)
