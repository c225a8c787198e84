-- Where settings say what, and what is assumed where they say nothing.
use Rattle.std.specs.Prelude.{List, [], ◌∷◌, pos, false, codes}
use Rattle.uses.specs.declared.defaults.Server.{Server}
use Rattle.yaml_json.specs.Path.{Step, key}
use Rattle.yaml_paths.specs.Optional.{IsReadOr}
use Rattle.yaml_rust2.specs.Text.{string_chars}
use Rattle.yaml_rust2.specs.Tree.{Tree, integer, string, boolean}

-- the server's name
abbrev pub host_path : List Step
host_path = key (codes "server") ∷ key (codes "host") ∷ []

-- the server's port
abbrev pub port_path : List Step
port_path = key (codes "server") ∷ key (codes "port") ∷ []

-- whether it is reached by TLS
abbrev pub tls_path : List Step
tls_path = key (codes "server") ∷ key (codes "tls") ∷ []

-- A server is as these settings say. Where they say nothing, it is `localhost`, port 8080, without TLS.
pub record IsServerOf (settings : Tree) (server : Server) : Type 0 where
  pub host : IsReadOr (codes "localhost") string host_path settings (string_chars server.host)
  pub port : IsReadOr (pos 8080) integer port_path settings server.port
  pub tls : IsReadOr false boolean tls_path settings server.tls
